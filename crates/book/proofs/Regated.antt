-- Other timings keep what a plan keeps. Assumes nothing.
use Rattle.std.proofs.Common.{◌≡◌, ℕ, zero, suc, ◌<◌, ◌≤◌, true, List, [], ◌∷◌, map, length, get_or, set, None, Option, sym, refl, ap, subst, arith}
use Rattle.std.specs.List.{AllByRecursion}
use Rattle.orders.specs.Lists.{Pairs, In}
use Rattle.circuit.specs.declared.action.Action.{Action}
use Rattle.circuit.specs.Actions.{wires, first_wire, is_read, Distinct}
use Rattle.plan.specs.declared.gate.Timing.{Timing}
use Rattle.plan.specs.declared.gate.Gate.{Gate}
use Rattle.plan.specs.Plans.{Plan, no_gate, labels, gate_count, retimed}
use Rattle.plan.specs.Kept.{NotAfterRead, TimingFit, Kept}
use Rattle.book.specs.Books.{with_gates}

-- gates with the same actions keep what concerns actions
all_actions : (P : Action → Type 0) (gs hs : List Gate) → map (λ g. g.action) hs ≡ map (λ g. g.action) gs → AllByRecursion (λ g. P g.action) gs → AllByRecursion (λ g. P g.action) hs
all_actions P gs hs e a = out hs (subst (AllByRecursion P) (sym e) (into gs a))
  where
    into : (gs : List Gate) → AllByRecursion (λ g. P g.action) gs → AllByRecursion P (map (λ g. g.action) gs)
    into [] a = tt
    into (g ∷ gs) a = (a.0, into gs a.1)

    out : (gs : List Gate) → AllByRecursion P (map (λ g. g.action) gs) → AllByRecursion (λ g. P g.action) gs
    out [] a = tt
    out (g ∷ gs) a = (a.0, out gs a.1)

abbrev ApartFromRead : Action → Action → Type 0
ApartFromRead x y = is_read x ≡ true → In (first_wire x) (wires y) → ⊥

pairs_actions : (gs hs : List Gate) → map (λ g. g.action) hs ≡ map (λ g. g.action) gs → Pairs NotAfterRead gs → Pairs NotAfterRead hs
pairs_actions gs hs e a = out hs (subst (Pairs ApartFromRead) (sym e) (into gs a))
  where
    all_into : (x : Action) (gs : List Gate) → AllByRecursion (λ g. ApartFromRead x g.action) gs → AllByRecursion (ApartFromRead x) (map (λ g. g.action) gs)
    all_into x [] a = tt
    all_into x (g ∷ gs) a = (a.0, all_into x gs a.1)

    into : (gs : List Gate) → Pairs NotAfterRead gs → Pairs ApartFromRead (map (λ g. g.action) gs)
    into [] a = tt
    into (g ∷ gs) a = (all_into g.action gs a.0, into gs a.1)

    all_out : (x : Action) (gs : List Gate) → AllByRecursion (ApartFromRead x) (map (λ g. g.action) gs) → AllByRecursion (λ g. ApartFromRead x g.action) gs
    all_out x [] a = tt
    all_out x (g ∷ gs) a = (a.0, all_out x gs a.1)

    out : (gs : List Gate) → Pairs ApartFromRead (map (λ g. g.action) gs) → Pairs NotAfterRead gs
    out [] a = tt
    out (g ∷ gs) a = (all_out g.action gs a.0, out gs a.1)

pub kept_regated : (p : Plan) (gs : List Gate) → Kept p → length gs ≡ gate_count p → map (λ g. g.action) gs ≡ map (λ g. g.action) p.gates → AllByRecursion TimingFit gs → Kept (with_gates p gs)
kept_regated p gs k l e t = record {
  grid_fit = k.grid_fit;
  some_labels = k.some_labels;
  few_labels = k.few_labels;
  labels_fit = k.labels_fit;
  few_gates = subst (λ n. n ≤ 256) (sym l) k.few_gates;
  calibrated = k.calibrated;
  in_range = k.in_range;
  on_machine = k.on_machine;
  labels_below = all_actions (λ x. AllByRecursion (λ y. y < labels p) (wires x)) p.gates gs e k.labels_below;
  distinct = all_actions Distinct p.gates gs e k.distinct;
  timings_fit = t;
  reads_last = pairs_actions p.gates gs e k.reads_last;
}

-- another timing leaves the actions
pub set_actions : (gs : List Gate) (g : ℕ) (t : Option Timing) → map (λ x. x.action) (set gs g (record { action = (get_or gs g no_gate).action; timing = t })) ≡ map (λ x. x.action) gs
set_actions [] g t = refl
set_actions (x ∷ gs) zero t = refl
set_actions (x ∷ gs) (suc g) t = ap (λ xs. x.action ∷ xs) (set_actions gs g t)

pub set_timings : (gs : List Gate) (g : ℕ) (x : Gate) → AllByRecursion TimingFit gs → TimingFit x → AllByRecursion TimingFit (set gs g x)
set_timings [] g x a t = tt
set_timings (y ∷ gs) zero x a t = (t, a.1)
set_timings (y ∷ gs) (suc g) x a t = (a.0, set_timings gs g x a.1 t)

pub dropped_actions : (gs : List Gate) → map (λ x. x.action) (map (λ g. retimed g None) gs) ≡ map (λ x. x.action) gs
dropped_actions [] = refl
dropped_actions (g ∷ gs) = ap (λ xs. g.action ∷ xs) (dropped_actions gs)

pub dropped_timings : (gs : List Gate) → AllByRecursion TimingFit (map (λ g. retimed g None) gs)
dropped_timings [] = tt
dropped_timings (g ∷ gs) = ((omega arith, omega arith), dropped_timings gs)
