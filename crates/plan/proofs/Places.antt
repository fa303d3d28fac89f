-- A broken constraint and the places at which its test is made. Assumes nothing.
use Rattle.std.proofs.Common.{◌≡◌, ℕ, ◌<◌, ◌≤◌, Bool, true, false, cond, eqb, Some, sym, refl, ap, ◌∙◌, subst, rules}
use Rattle.std.proofs.lemmas.Bool.{eqb-true}
use Rattle.orders.specs.Lists.{In}
use Rattle.refusal.specs.declared.Refusal.{Refusal}
use Rattle.refusal.specs.Refusals.{shown, number}
use Rattle.circuit.specs.declared.action.Action.{Action}
use Rattle.circuit.specs.Actions.{wires, wire_at, first_wire}
use Rattle.route.specs.Routes.{Route}
use Rattle.plan.specs.Plans.{Plan, gate_count, action_at, labels_at, home, values_of}
use Rattle.plan.specs.Durations.{end_at}
use Rattle.plan.specs.Constraints.{Broken, test_place}
use Rattle.plan.specs.Verdicts.{Constraint, no_home, one_home, no_timing, no_choice, too_early, overlap, too_late, home_or, naming}
use Rattle.plan.proofs.Tests.{At}

-- the place of a constraint in the order of tests
abbrev pub order : Constraint → ℕ
order no_home = 21
order one_home = 22
order no_timing = 23
order no_choice = 24
order too_early = 25
order overlap = 26
order too_late = 27

wire_in : (q l : ℕ) (x : Action) → wire_at q x ≡ Some l → In l (wires x)
wire_in q l x e = search rules

module _ (p : Plan) (R : Route) where
  -- what the tests find is broken
  pub naming-broken : (c : Constraint) (i j : ℕ) → At p R c i j → Broken p R (naming p R c (i, j))
  naming-broken no_home i j a = a.1
  naming-broken one_home i j a = a
  naming-broken no_timing i j a = a.1
  naming-broken no_choice i j a = a.1
  naming-broken too_early i j a = a
  naming-broken overlap i j a = a
  naming-broken too_late g q (h, (l, i, w)) =
      let e : home p l ≡ home_or p (wire_at q (action_at p g)) = ap (home_or p) (sym i) in
      (h, (l, wire_in q l (action_at p g) i, e), subst (λ c. (values_of p c).window < end_at p R g) e w)

  pub naming-number : (c : Constraint) (i j : ℕ) → number (naming p R c (i, j)) ≡ order c
  naming-number c i j = search rules

  pub naming-first : (c : Constraint) (i j : ℕ) → (shown (naming p R c (i, j))).first ≡ i
  naming-first c i j = search rules

  -- a refusal's place in the order of tests is not above that at which it was found
  pub naming-place : (c : Constraint) (i j : ℕ) → At p R c i j → test_place p R (naming p R c (i, j)) ≤ j
  naming-place c i j a = search rules

  -- where the test of a broken constraint fails
  pub record Located (q : Refusal) : Type 0 where
    pub which : Constraint
    pub one : ℕ
    pub two : ℕ
    pub is : q ≡ naming p R which (one, two)
    pub at : At p R which one two
    pub place : test_place p R q ≡ two

  second_late : (x : Action) (l c : ℕ) → In l (wires x) → home p l ≡ c → eqb c (home p (first_wire x)) ≡ false → wire_at 1 x ≡ Some l
  second_late x l c i h f = search rules

  late_located : (g c l : ℕ) → g < gate_count p → In l (labels_at p g) → home p l ≡ c → (values_of p c).window < end_at p R g → (t : Bool) → eqb c (home p (first_wire (action_at p g))) ≡ t → Located (Refusal.PastWindow g c)
  late_located g c l h i e w true f =
      let x = action_at p g in
      let s : c ≡ home p (first_wire x) = eqb-true c (home p (first_wire x)) f in
      record {
        which = too_late;
        one = g;
        two = 0;
        is = ap (Refusal.PastWindow g) s;
        at = (h, (first_wire x, refl, subst (λ y. (values_of p y).window < end_at p R g) s w));
        place = ap (λ t. cond t 0 1) f;
      }
  late_located g c l h i e w false f =
      let s = second_late (action_at p g) l c i e f in
      record {
        which = too_late;
        one = g;
        two = 1;
        is = ap (Refusal.PastWindow g) (sym e ∙ ap (home_or p) (sym s));
        at = (h, (l, s, subst (λ y. (values_of p y).window < end_at p R g) (sym e) w));
        place = ap (λ t. cond t 0 1) f;
      }

  pub located : (q : Refusal) → Broken p R q → Located q
  located (Refusal.NoHome l) b = record { which = no_home; one = l; two = 0; is = refl; at = (refl, b); place = refl }
  located (Refusal.SharedHome l m) b = record { which = one_home; one = l; two = m; is = refl; at = b; place = refl }
  located (Refusal.NoTiming g) b = record { which = no_timing; one = g; two = 0; is = refl; at = (refl, b); place = refl }
  located (Refusal.ChoiceNotOffered g) b = record { which = no_choice; one = g; two = 0; is = refl; at = (refl, b); place = refl }
  located (Refusal.TooEarly i j) b = record { which = too_early; one = i; two = j; is = refl; at = b; place = refl }
  located (Refusal.Overlap i j) b = record { which = overlap; one = i; two = j; is = refl; at = b; place = refl }
  located (Refusal.PastWindow g c) (h, (l, i, e), w) = late_located g c l h i e w (eqb c (home p (first_wire (action_at p g)))) refl
  located Refusal.MachineSize b = absurd b
  located Refusal.LabelCount b = absurd b
  located Refusal.UnknownKind b = absurd b
  located (Refusal.NoSuchLabel l) b = absurd b
  located Refusal.SameLabel b = absurd b
  located (Refusal.AlreadyRead l) b = absurd b
  located Refusal.ProgramFull b = absurd b
  located (Refusal.NoSuchCell c) b = absurd b
  located (Refusal.ValueOutOfRange c) b = absurd b
  located (Refusal.NoSuchGate g) b = absurd b
  located (Refusal.StartTooLarge g) b = absurd b
  located (Refusal.ChoiceTooLarge g) b = absurd b
  located Refusal.TooFewPlaces b = absurd b
  located (Refusal.NotOnWires i) b = absurd b
  located (Refusal.KindNotTaken i) b = absurd b
  located Refusal.TooManyH b = absurd b
  located Refusal.MalformedLine b = absurd b
  located Refusal.WrongState b = absurd b
  located Refusal.NoMemory b = absurd b
