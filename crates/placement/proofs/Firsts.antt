-- A refusal that is named after the first place that fails. Assumes nothing.
use Rattle.std.proofs.Common.{◌≡◌, ℕ, Bool, Some, None, Option, refl, ap, ◌∙◌}
use Rattle.std.specs.Option.{option_map}
use Rattle.search.specs.Searches.{first_below, scan_pairs}
use Rattle.search.proofs.Searches.{scan_one}

module _ {X : Type 0} (name : ℕ → X) where
  first_alone : (o : Option ℕ) → option_map (λ (q : ℕ × ℕ). name q.0) (option_map (λ a. (a, 0)) o) ≡ option_map name o
  first_alone None = refl
  first_alone (Some a) = refl

  -- a search by the first place alone
  pub named_first : (p : ℕ → Bool) (n : ℕ) → option_map (λ (q : ℕ × ℕ). name q.0) (scan_pairs (λ a b. p a) n 1) ≡ option_map name (first_below p n)
  named_first p n = ap (option_map (λ (q : ℕ × ℕ). name q.0)) (scan_one p n) ∙ first_alone (first_below p n)
