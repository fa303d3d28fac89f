use Rattle.std.proofs.Common.{◌≡◌, ℕ, ◌<◌, false}
use Rattle.search.specs.Searches.{tested}
use Rattle.search.proofs.first_second.Given as goal

abbrev pub invariant-loop-j : goal.invariant-loop-j
invariant-loop-j g l = (k : ℕ) → k < l.j → tested g.P.PairTest.ordered (g.P.PairTest.failing l.test) l.first k ≡ false
