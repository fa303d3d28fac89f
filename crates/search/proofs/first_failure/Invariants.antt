use Rattle.std.proofs.Common.{◌≡◌, ℕ, ◌<◌, None}
use Rattle.search.specs.Searches.{tested, first_below}
use Rattle.search.proofs.first_failure.Given as goal

abbrev pub invariant-loop-i : goal.invariant-loop-i
invariant-loop-i g l = (k : ℕ) → k < l.i → first_below (tested g.P.PairTest.ordered (g.P.PairTest.failing l.test) k) (g.P.PairTest.seconds l.test) ≡ None
