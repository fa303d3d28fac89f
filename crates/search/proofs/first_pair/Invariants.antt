use Rattle.std.proofs.Common.{◌≡◌, false, ℕ, ◌<◌, length}
use Rattle.search.specs.Searches.{paired}
use Rattle.search.proofs.first_pair.Given as goal

abbrev pub invariant-loop-i : goal.invariant-loop-i
invariant-loop-i g l = (d : _) (a b : ℕ) → a < l.i → b < length l.items → paired g.passes l.items d a b ≡ false
