-- What a job keeps follows from that it merely has a history. Assumes nothing.
use Rattle.std.proofs.Common.{◌≡◌, ℕ, ◌<◌, ◌≤◌, List, [], ◌∷◌, get_or, Some, None, sym, refl, ap, subst}
use mathlib.Core.Logic.{∥∥₁_elim, ∥∥₁_map}
use mathlib.Core.HLevel.{Π_prop}
use denote.Struct.Props.{props}
use Rattle.std.specs.List.{AllByRecursion}
use Rattle.orders.specs.Lists.{Pairs}
use Rattle.circuit.specs.declared.action.Action.{Action}
use Rattle.circuit.specs.Actions.{wires, Distinct}
use Rattle.grid.specs.Grids.{Grid, cells, GridFit}
use Rattle.calibration.specs.Calibrations.{InRange}
use Rattle.plan.specs.declared.gate.Gate.{Gate}
use Rattle.plan.specs.Plans.{Plan, labels}
use Rattle.plan.specs.Kept.{NotAfterRead, TimingFit, Kept}
use Rattle.book.specs.Books.{Book}
use Rattle.book.specs.Calls.{Call, Callable}
use Rattle.book.specs.Refusals.{refusal}
use Rattle.book.specs.Histories.{written, unless_refused, fed, History, called}
use Rattle.book.proofs.Kept.{kept_always}

pub all_prop : {X : Type 0} (P : X → Type 0) → ((x : X) → IsProp (P x)) → (xs : List X) → IsProp (AllByRecursion P xs)
all_prop P h [] = λ x y. refl
all_prop P h (x ∷ xs) = λ a b i. (h x a.0 b.0 i, all_prop P h xs a.1 b.1 i)

pub pairs_prop : {X : Type 0} (R : X → X → Type 0) → ((x y : X) → IsProp (R x y)) → (xs : List X) → IsProp (Pairs R xs)
pairs_prop R h [] = λ x y. refl
pairs_prop R h (x ∷ xs) = λ a b i. (all_prop (R x) (h x) xs a.0 b.0 i, pairs_prop R h xs a.1 b.1 i)

distinct_prop : (x : Action) → IsProp (Distinct x)
distinct_prop (Action.One k a) = λ x y. refl
distinct_prop (Action.Cnot a b) = hlevel props

le_one : (a b : ℕ) → IsProp (a ≤ b)
le_one a b = hlevel props

same_one : (a b : ℕ) → IsProp (a ≡ b)
same_one a b = hlevel props

ranged_one : (p : Plan) → IsProp (InRange p.machine p.calibration)
ranged_one p = hlevel props

machine_one : (p : Plan) → IsProp ((l c : ℕ) → get_or p.homes l None ≡ Some c → c < cells p.machine)
machine_one p = Π_prop (λ l. Π_prop (λ c. Π_prop (λ e. le_one _ _)))

timing_one : (g : Gate) → IsProp (TimingFit g)
timing_one g = λ x y i. (le_one _ _ x.0 y.0 i, le_one _ _ x.1 y.1 i)

not_after_one : (g h : Gate) → IsProp (NotAfterRead g h)
not_after_one g h = Π_prop (λ e. Π_prop (λ m x y. absurd x))

fit_one : (m : Grid) → IsProp (GridFit m)
fit_one m x y i = record {
  some_columns = le_one _ _ x.some_columns y.some_columns i;
  few_columns = le_one _ _ x.few_columns y.few_columns i;
  some_rows = le_one _ _ x.some_rows y.some_rows i;
  few_rows = le_one _ _ x.few_rows y.few_rows i;
}

pub kept_prop : (p : Plan) → IsProp (Kept p)
kept_prop p x y i = record {
  grid_fit = fit_one p.machine x.grid_fit y.grid_fit i;
  some_labels = le_one _ _ x.some_labels y.some_labels i;
  few_labels = le_one _ _ x.few_labels y.few_labels i;
  labels_fit = le_one _ _ x.labels_fit y.labels_fit i;
  few_gates = le_one _ _ x.few_gates y.few_gates i;
  calibrated = same_one _ _ x.calibrated y.calibrated i;
  in_range = ranged_one p x.in_range y.in_range i;
  on_machine = machine_one p x.on_machine y.on_machine i;
  labels_below = all_prop (λ g. AllByRecursion (λ l. l < labels p) (wires g.action)) (λ g. all_prop (λ l. l < labels p) (λ l. le_one _ _) (wires g.action)) p.gates x.labels_below y.labels_below i;
  distinct = all_prop (λ g. Distinct g.action) (λ g. distinct_prop g.action) p.gates x.distinct y.distinct i;
  timings_fit = all_prop TimingFit timing_one p.gates x.timings_fit y.timings_fit i;
  reads_last = pairs_prop NotAfterRead not_after_one p.gates x.reads_last y.reads_last i;
}

-- a job that merely has a history keeps what every history keeps
pub kept_merely : {b : Book} → ∥ History b ∥₁ → Kept b.plan
kept_merely {b} h = ∥∥₁_elim h (kept_prop b.plan) kept_always

-- after a call that the state allows, a job's book still has a history
pub lives_on : (b then : Book) (c : Call) → Callable b c → then ≡ fed b c → ∥ History b ∥₁ → ∥ History then ∥₁
lives_on b then c a e l = ∥∥₁_map l (λ h. subst History (sym e) (called h c a))

-- an accepted call that the state allows leaves a job with a history
pub lives_accepted : (b : Book) (c : Call) → Callable b c → refusal b c ≡ None → ∥ History b ∥₁ → ∥ History (written b c) ∥₁
lives_accepted b c a e l = lives_on b (written b c) c a (sym (ap (λ o. unless_refused o b (written b c)) e)) l
