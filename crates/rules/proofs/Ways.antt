-- A path that is pushed cell by cell. Assumes nothing.
use Rattle.std.proofs.Common.{◌≡◌, ℕ, ◌+◌, ◌<◌, cond, leb, List, [], ◌∷◌, ◌++◌, map, length, is_ok, Result, ap, ◌∙◌, zero-add, arith}
use Rattle.std.specs.List.{range_with_len}
use Rattle.std.proofs.lemmas.List.FromFn.{length-map-range_with_len, map-range_with_len_more}
use Rattle.std.proofs.lemmas.Bool.Decides.{nat_tests}
use Rattle.refusal.specs.declared.Refusal.{Refusal}
use Rattle.refusal.specs.Refusals.{refuse_if, ok_unless}

-- one cell more
pub way_more : (f : ℕ → ℕ) (k : ℕ) (was then : List ℕ) (cell : ℕ) (r : Result Unit Refusal) → was ≡ map f (range_with_len 0 k) → k < 64 → cell ≡ f k → r ≡ ok_unless (refuse_if (leb 64 (length was)) Refusal.TooFewPlaces) tt → then ≡ cond (is_ok r) (was ++ (cell ∷ [])) was → then ≡ map f (range_with_len 0 (k + 1))
way_more f k was then cell r so_far few at answer after =
    grind (arith, nat_tests, ap length so_far ∙ length-map-range_with_len f 0 k, map-range_with_len_more f 0 k k (zero-add k))
