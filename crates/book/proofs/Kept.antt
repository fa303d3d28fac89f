-- What every history keeps. Assumes nothing.
use Rattle.std.proofs.Common.{◌≡◌, ℕ, zero, suc, ◌*◌, ◌<◌, ◌≤◌, Bool, true, false, not, ◌&&◌, eqb, ltb, leb, List, [], ◌∷◌, ◌++◌, length, get_or, set, replicate, Some, None, Option, sym, refl, ap, ◌∙◌, subst, arith, length-append, length-set, get_or-set_other, get_or-set_same}
use native.Mathlib.Decide.{ℕ_discrete}
use lib.ListN.{length-replicate, length-map}
use Rattle.std.specs.List.{AllByRecursion}
use Rattle.std.proofs.lemmas.List.FromFn.{length-map-range_with_len}
use Rattle.std.proofs.ByRecursion.{All-push, All-weaker, All-get_or, All-from_get_or}
use Rattle.std.proofs.lemmas.Bool.{leb-true, leb-false, ltb-false, eqb-false, eq-eqb, and_parts, and_from, both_ways, or_parts, not-false}
use Rattle.orders.specs.Lists.{Pairs}
use Rattle.orders.proofs.Lists.{pairs_append}
use Rattle.orders.proofs.Pairs.{all_in}
use Rattle.circuit.specs.declared.action.Action.{Action}
use Rattle.circuit.specs.Actions.{action_of, wires, first_wire, is_read, Distinct, is_twice}
use Rattle.refusal.specs.declared.Refusal.{Refusal}
use Rattle.refusal.specs.Refusals.{refuse_if}
use Rattle.refusal.proofs.Accepted.{passed, neither}
use Rattle.grid.specs.Grids.{grid, between, cells}
use Rattle.calibration.specs.declared.values.Calibration.{Calibration}
use Rattle.calibration.specs.Calibrations.{calibration_ok, no_values, first_values}
use Rattle.calibration.proofs.Ranges.{first-in_range}
use Rattle.plan.specs.declared.gate.Gate.{Gate}
use Rattle.plan.specs.Plans.{Plan, no_gate, labels, gate_count, retimed}
use Rattle.plan.specs.Kept.{NotAfterRead, TimingFit, Kept}
use Rattle.book.specs.Books.{Book, opening_plan, with_calibration, with_homes, untimed, timed}
use Rattle.book.specs.Calls.{Call, add, close, calibrate, place, time, try, judge, agenda, list, run, reopen}
use Rattle.book.specs.Refusals.{refuse_first, opening_refusal, was_read, adding_refusal, timing_refusal, refusal}
use Rattle.book.specs.Histories.{added_or, plan_after, written, unless_refused, History, opened, called}
use Rattle.book.proofs.Regated.{kept_regated, set_actions, set_timings, dropped_actions, dropped_timings}

some_none : {X : Type 0} (x : X) → Some x ≡ None → ⊥
some_none x e = let z : ◌≡◌ {A = ℕ} 0 1 = cc in omega arith

in_between : (low high v : ℕ) → between low high v ≡ true → (low ≤ v) × (v ≤ high)
in_between low high v e = let q = and_parts (leb low v) (leb v high) e in (leb-true low v q.0, leb-true v high q.1)

-- what was not refused by a test that failed
held : (t : Bool) (r : Refusal) → refuse_if (not t) r ≡ None → t ≡ true
held t r e = not-false t (passed (not t) r e)

first-none : (names : ℕ → Refusal) (test : ℕ → Bool) (ls : List ℕ) → refuse_first names test ls ≡ None → AllByRecursion (λ l. test l ≡ false) ls
first-none names test [] e = tt
first-none names test (l ∷ ls) e = let q = neither (refuse_if (test l) (names l)) _ e in (passed (test l) (names l) q.0, first-none names test ls q.1)

get_or-none : {X : Type 0} (n i : ℕ) → get_or {A = Option X} (replicate n None) i None ≡ None
get_or-none zero i = refl
get_or-none (suc n) zero = refl
get_or-none (suc n) (suc i) = get_or-none n i

kept-opening : (w h p : ℕ) → opening_refusal w h p ≡ None → Kept (opening_plan w h p)
kept-opening w h p e =
    let m = neither (refuse_if (not (between 1 8 w && between 1 8 h)) Refusal.MachineSize) _ e in
    let q = and_parts (between 1 8 w) (between 1 8 h) (held (between 1 8 w && between 1 8 h) Refusal.MachineSize m.0) in
    let wide = in_between 1 8 w q.0 in
    let high = in_between 1 8 h q.1 in
    let s = and_parts (between 1 32 p) (leb p (h * w)) (held (between 1 32 p && leb p (h * w)) Refusal.LabelCount m.1) in
    let some = in_between 1 32 p s.0 in
    let long : length {A = Option ℕ} (replicate p None) ≡ p = length-replicate p None in
    record {
      grid_fit = record { some_columns = wide.0; few_columns = wide.1; some_rows = high.0; few_rows = high.1 };
      some_labels = subst (λ x. 1 ≤ x) (sym long) some.0;
      few_labels = subst (λ x. x ≤ 32) (sym long) some.1;
      labels_fit = subst (λ x. x ≤ h * w) (sym long) (leb-true p (h * w) s.1);
      few_gates = omega arith;
      calibrated = length-map-range_with_len (first_values (grid w h)) 0 (h * w);
      in_range = first-in_range (grid w h);
      on_machine = λ l c e. absurd (some_none c (sym e ∙ get_or-none p l));
      labels_below = tt;
      distinct = tt;
      timings_fit = tt;
      reads_last = tt;
    }

distinct_from : (x : Action) → is_twice x ≡ false → Distinct x
distinct_from (Action.One k a) e = tt
distinct_from (Action.Cnot a b) e = eqb-false a b e

-- a label that was not read
not_read : (gs : List Gate) (l : ℕ) → was_read gs l ≡ false → AllByRecursion (λ g. (is_read g.action && eqb (first_wire g.action) l) ≡ false) gs
not_read [] l e = tt
not_read (g ∷ gs) l e = let q = or_parts (is_read g.action && eqb (first_wire g.action) l) (was_read gs l) e in (q.0, not_read gs l q.1)

pairs_push : (gs : List Gate) (x : Action) → Pairs NotAfterRead gs → AllByRecursion (λ l. was_read gs l ≡ false) (wires x) → Pairs NotAfterRead (gs ++ (untimed x ∷ []))
pairs_push gs x p a =
    pairs_append NotAfterRead gs (untimed x ∷ []) p (tt, tt)
    (All-from_get_or (λ g. AllByRecursion (NotAfterRead g) (untimed x ∷ [])) gs no_gate (λ k h. (
      λ r i. let g = get_or gs k no_gate in let w = all_in (λ l. was_read gs l ≡ false) (wires x) (first_wire g.action) a i in
          both_ways (is_read g.action && eqb (first_wire g.action) (first_wire g.action))
          (All-get_or (λ y. (is_read y.action && eqb (first_wire y.action) (first_wire g.action)) ≡ false) gs k no_gate h (not_read gs (first_wire g.action) w))
          (and_from (is_read g.action) (eqb (first_wire g.action) (first_wire g.action)) r (eq-eqb (first_wire g.action) (first_wire g.action) refl)),
      tt,
    )))

kept-added : (p : Plan) → Kept p → (o : Option Action) → adding_refusal p o ≡ None → Kept (added_or p o)
kept-added p k None e = absurd (some_none _ e)
kept-added p k (Some x) e =
    let e₁ = neither (refuse_first Refusal.NoSuchLabel (λ l. leb (labels p) l) (wires x)) _ e in
    let e₂ = neither (refuse_if (is_twice x) Refusal.SameLabel) _ e₁.1 in
    let e₃ = neither (refuse_first Refusal.AlreadyRead (was_read p.gates) (wires x)) _ e₂.1 in
    let few : gate_count p < 256 = leb-false 256 (gate_count p) (passed (leb 256 (gate_count p)) Refusal.ProgramFull e₃.1) in
    let long = length-append p.gates (untimed x ∷ []) in
    record {
      grid_fit = k.grid_fit;
      some_labels = k.some_labels;
      few_labels = k.few_labels;
      labels_fit = k.labels_fit;
      few_gates = subst (λ n. n ≤ 256) (sym long) (omega arith);
      calibrated = k.calibrated;
      in_range = k.in_range;
      on_machine = k.on_machine;
      labels_below = All-push (λ g. AllByRecursion (λ y. y < labels p) (wires g.action)) p.gates (untimed x) k.labels_below
          (All-weaker (λ l. leb (labels p) l ≡ false) (λ l. l < labels p) (λ l t. leb-false (labels p) l t) (wires x) (first-none Refusal.NoSuchLabel (λ l. leb (labels p) l) (wires x) e₁.0));
      distinct = All-push (λ g. Distinct g.action) p.gates (untimed x) k.distinct (distinct_from x (passed (is_twice x) Refusal.SameLabel e₂.0));
      timings_fit = All-push TimingFit p.gates (untimed x) k.timings_fit (omega arith, omega arith);
      reads_last = pairs_push p.gates x k.reads_last (first-none Refusal.AlreadyRead (was_read p.gates) (wires x) e₃.0);
    }

kept-calibrated : (p : Plan) (c : ℕ) (v : Calibration) → Kept p → c < cells p.machine → calibration_ok p.machine c v ≡ true → Kept (with_calibration p (set p.calibration c v))
kept-calibrated p c v k h e = record {
  grid_fit = k.grid_fit;
  some_labels = k.some_labels;
  few_labels = k.few_labels;
  labels_fit = k.labels_fit;
  few_gates = k.few_gates;
  calibrated = length-set p.calibration c v ∙ k.calibrated;
  in_range = λ d l. at d l (ℕ_discrete d c);
  on_machine = k.on_machine;
  labels_below = k.labels_below;
  distinct = k.distinct;
  timings_fit = k.timings_fit;
  reads_last = k.reads_last;
}
  where
    at : (d : ℕ) → d < cells p.machine → Dec (d ≡ c) → calibration_ok p.machine d (get_or (set p.calibration c v) d no_values) ≡ true
    at d l (yes q) = subst (λ x. calibration_ok p.machine x (get_or (set p.calibration c v) x no_values) ≡ true) (sym q)
        (subst (λ y. calibration_ok p.machine c y ≡ true) (sym (get_or-set_same p.calibration c v no_values (subst (λ n. c < n) (sym k.calibrated) h))) e)
    at d l (no n) = subst (λ y. calibration_ok p.machine d y ≡ true) (sym (get_or-set_other p.calibration c d v no_values n)) (k.in_range d l)

kept-placed : (p : Plan) (l c : ℕ) → Kept p → l < labels p → c < cells p.machine → Kept (with_homes p (set p.homes l (Some c)))
kept-placed p l c k h j =
    let long : length (set p.homes l (Some c)) ≡ labels p = length-set p.homes l (Some c) in
    record {
      grid_fit = k.grid_fit;
      some_labels = subst (λ n. 1 ≤ n) (sym long) k.some_labels;
      few_labels = subst (λ n. n ≤ 32) (sym long) k.few_labels;
      labels_fit = subst (λ n. n ≤ cells p.machine) (sym long) k.labels_fit;
      few_gates = k.few_gates;
      calibrated = k.calibrated;
      in_range = k.in_range;
      on_machine = λ m d e. at m d e (ℕ_discrete m l);
      labels_below = subst (λ n. AllByRecursion (λ g. AllByRecursion (λ y. y < n) (wires g.action)) p.gates) (sym long) k.labels_below;
      distinct = k.distinct;
      timings_fit = k.timings_fit;
      reads_last = k.reads_last;
    }
  where
    same : (d : ℕ) → Some c ≡ Some d → d < cells p.machine
    same d e = let f : c ≡ d = cc in subst (λ x. x < cells p.machine) f j

    at : (m d : ℕ) → get_or (set p.homes l (Some c)) m None ≡ Some d → Dec (m ≡ l) → d < cells p.machine
    at m d e (yes q) = same d (sym (get_or-set_same p.homes l (Some c) None h) ∙ ap (λ x. get_or (set p.homes l (Some c)) x None) (sym q) ∙ e)
    at m d e (no n) = k.on_machine m d (sym (get_or-set_other p.homes l m (Some c) None n) ∙ e)

pub kept-timed : (p : Plan) (g s c : ℕ) → Kept p → timing_refusal p g s c ≡ None → Kept (timed p g s c)
kept-timed p g s c k e =
    let e₁ = neither (refuse_if (leb (gate_count p) g) (Refusal.NoSuchGate g)) _ e in
    let e₂ = neither (refuse_if (ltb 1000000 s) (Refusal.StartTooLarge g)) _ e₁.1 in
    let low : s ≤ 1000000 = ltb-false 1000000 s (passed (ltb 1000000 s) (Refusal.StartTooLarge g) e₂.0) in
    let few : c ≤ 255 = ltb-false 255 c (passed (ltb 255 c) (Refusal.ChoiceTooLarge g) e₂.1) in
    kept_regated p _ k (length-set p.gates g _) (set_actions p.gates g _) (set_timings p.gates g _ k.timings_fit (low, few))

kept-after : (p : Plan) (b : Bool) → Kept p → (c : Call) → refusal (record { plan = p; closed = b }) c ≡ None → Kept (plan_after p c)
kept-after p b k (add x l m) e = kept-added p k (action_of x l m) e
kept-after p b k close e = k
kept-after p b k (calibrate c v) e =
    let f = neither (refuse_if (leb (cells p.machine) c) (Refusal.NoSuchCell c)) _ e in
    kept-calibrated p c v k (leb-false (cells p.machine) c (passed (leb (cells p.machine) c) (Refusal.NoSuchCell c) f.0)) (held (calibration_ok p.machine c v) (Refusal.ValueOutOfRange c) f.1)
kept-after p b k (place l c) e =
    let f = neither (refuse_if (leb (labels p) l) (Refusal.NoSuchLabel l)) _ e in
    kept-placed p l c k (leb-false (labels p) l (passed (leb (labels p) l) (Refusal.NoSuchLabel l) f.0)) (leb-false (cells p.machine) c (passed (leb (cells p.machine) c) (Refusal.NoSuchCell c) f.1))
kept-after p b k (time g s c) e = kept-timed p g s c k e
kept-after p b k (try R g s c) e = k
kept-after p b k (judge R) e = k
kept-after p b k (agenda n) e = k
kept-after p b k (list R n) e = k
kept-after p b k (run r) e = k
kept-after p b k reopen e = kept_regated p _ k (length-map p.gates (λ g. retimed g None)) (dropped_actions p.gates) (dropped_timings p.gates)

unless : (o : Option Refusal) (b c : Book) → Kept b.plan → (o ≡ None → Kept c.plan) → Kept (unless_refused o b c).plan
unless (Some r) b c k f = k
unless None b c k f = f refl

-- what every history keeps
pub kept_always : {b : Book} → History b → Kept b.plan
kept_always (opened w h p e) = kept-opening w h p e
kept_always (called {b = b} h c a) = unless (refusal b c) b (written b c) (kept_always h) (kept-after b.plan b.closed (kept_always h) c)
