-- The first operation that fails a test, in the library's word. Assumes nothing.
use Rattle.std.proofs.Common.{◌≡◌, ℕ, ◌+◌, Bool, true, false, cond, List, [], ◌∷◌, Some, refl, ap, ◌∙◌}
use Rattle.std.specs.List.{position, position_from}
use Rattle.std.specs.Option.{option_map}
use Rattle.std.proofs.lemmas.Iterator.Adapters.{position_from-zero}
use Rattle.refusal.specs.declared.Refusal.{Refusal}
use Rattle.register.specs.Runs.{at_first}

module _ {X : Type 0} (names : ℕ → Refusal) (test : X → Bool) where
  named_cond : (t : Bool) (i : ℕ) (xs : List X) → option_map names (position_from test (i + 1) xs) ≡ at_first names test (i + 1) xs
      → option_map names (cond t (Some i) (position_from test (i + 1) xs)) ≡ cond t (Some (names i)) (at_first names test (i + 1) xs)
  named_cond true i xs e = refl
  named_cond false i xs e = e

  named_from : (i : ℕ) (xs : List X) → option_map names (position_from test i xs) ≡ at_first names test i xs
  named_from i [] = refl
  named_from i (x ∷ xs) = named_cond (test x) i xs (named_from (i + 1) xs)

  -- the refusal that names the first position
  pub named_first : (xs : List X) → option_map names (position test xs) ≡ at_first names test 0 xs
  named_first xs = ap (option_map names) (position_from-zero test xs) ∙ named_from 0 xs
