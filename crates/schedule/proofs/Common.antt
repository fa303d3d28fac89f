-- A common cell, found by a test of every cell below a bound. Assumes nothing.
use mathlib.Core.Path.{◌≡◌}
use mathlib.Core.Logic.{inl, inr}
use mathlib.Core.Bool.{Bool, true, ◌&&◌}
use Prim.Native.Nat.{ℕ, ◌^◌, ◌<◌}
use Rattle.std.specs.Bool.{Decides}
use Rattle.std.proofs.lemmas.Bool.{and_parts, and_from, both_ways, cases_lt}
use Rattle.bits.specs.Bits.{bit}
use Rattle.bits.proofs.Bits.{bit_past}
use Rattle.grid.specs.CellSets.{CommonCell}
use Rattle.search.specs.Searches.{some_below}
use Rattle.search.proofs.Searches.{same_test, some_below-has, some_below-from}

-- the bits of a word are below its width
pub bit_below : (w n k : ℕ) → n < 2 ^ w → bit n k ≡ true → k < w
bit_below w n k h e = elim (cases_lt k w) [ inl l ↦ l | inr g ↦ absurd (both_ways (bit n k) (bit_past n w k h g) e) ]

pub common_test : (n : ℕ) (f g : ℕ → Bool) (r : Bool) → ((c : ℕ) → f c ≡ true → c < n) → Decides r (CommonCell f g) → r ≡ some_below (λ c. f c && g c) n
common_test n f g r below (has, from) =
    same_test r (some_below (λ c. f c && g c) n)
    (λ e. let q = has e in some_below-from (λ c. f c && g c) n q.0 (below q.0 q.1) (and_from (f q.0) (g q.0) q.1 q.2))
    (λ e. let q = some_below-has (λ c. f c && g c) n e in let s = and_parts (f q.0) (g q.0) q.2 in from (q.0, s.0, s.1))
