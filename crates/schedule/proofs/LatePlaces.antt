-- The first late label of a gate, and its place. Assumes nothing.
use Rattle.std.proofs.Common.{◌≡◌, ℕ, Bool, true, false, cond, ltb, Some, None, Option, refl, subst}
use Rattle.std.specs.Option.{option_or}
use Rattle.search.specs.Searches.{first_below}
use Rattle.circuit.specs.declared.action.Action.{Action}
use Rattle.circuit.specs.Actions.{wire_at}
use Rattle.plan.specs.Plans.{Plan, home, window}
use Rattle.plan.specs.Verdicts.{late_at, home_or}
use Rattle.spans.specs.declared.span.Span.{Span}
use Rattle.schedule.specs.Schedules.{first_late_label}

module _ (p : Plan) (e : ℕ) where
  -- a label and the place at which the action has it, or neither
  abbrev Placed : Action → Option ℕ → Option ℕ → Type 0
  Placed x None o = o ≡ None
  Placed x (Some l) o = (q : ℕ) × (o ≡ Some q) × (home_or p (wire_at q x) ≡ home p l)

  abbrev label_at : Action → ℕ → Option ℕ
  label_at x q = cond (late_at p e (wire_at q x)) (wire_at q x) None

  late_placed : (x : Action) → Placed x (option_or (label_at x 0) (label_at x 1)) (first_below (λ q. late_at p e (wire_at q x)) 2)
  late_placed (Action.One k a) = one (ltb (window p a) e)
    where
      one : (t : Bool) → Placed (Action.One k a) (option_or (cond t (Some a) None) None) (cond t (Some 0) None)
      one true = (0, refl, refl)
      one false = refl
  late_placed (Action.Cnot a b) = two (ltb (window p a) e) (ltb (window p b) e)
    where
      two : (t u : Bool) → Placed (Action.Cnot a b) (option_or (cond t (Some a) None) (cond u (Some b) None)) (cond t (Some 0) (cond u (Some 1) None))
      two true u = (0, refl, refl)
      two false true = (1, refl, refl)
      two false false = refl

module _ (p : Plan) (s : Span) where
  abbrev late_place : Option ℕ
  late_place = first_below (λ q. late_at p s.end (wire_at q s.action)) 2

  pub late-none : first_late_label p s ≡ None → late_place ≡ None
  late-none h = subst (λ o. Placed p s.end s.action o late_place) h (late_placed p s.end s.action)

  pub late-some : (l : ℕ) → first_late_label p s ≡ Some l → (q : ℕ) × (late_place ≡ Some q) × (home_or p (wire_at q s.action) ≡ home p l)
  late-some l h = subst (λ o. Placed p s.end s.action o late_place) h (late_placed p s.end s.action)
