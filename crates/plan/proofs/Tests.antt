-- Each constraint is broken exactly where its test fails. Assumes nothing.
use Rattle.std.proofs.Common.{is_none, ◌≡◌, ℕ, ◌<◌, true, ◌&&◌, ◌||◌, eqb, ltb, List, [], ◌∷◌, Some, None, Option, refl, ap, ◌∙◌, subst, inl, inr, arith, rules}
use Rattle.std.proofs.lemmas.Bool.{and_parts, and_from, lt-ltb, ltb-true, eq-eqb, eqb-true, both_ways, cases_Bool, or_cases, not-true, not_from_false, false≢true}
use Rattle.orders.specs.Lists.{In, Common, any}
use Rattle.orders.proofs.Lists.{any-has, any-from}
use Rattle.search.proofs.Searches.{some_below-has, some_below-from, highest-bound}
use Rattle.refusal.specs.declared.Refusal.{Refusal}
use Rattle.circuit.specs.declared.action.Action.{Action}
use Rattle.circuit.specs.Actions.{names, wires, wire_at}
use Rattle.grid.specs.Grids.{cells}
use Rattle.route.specs.Routes.{Route}
use Rattle.plan.specs.Plans.{Plan, no_gate, gate_count, action_at, timing_at, labels_at, start_at, choice_at, home_at, window}
use Rattle.plan.specs.Durations.{end_at, reserved}
use Rattle.plan.specs.Constraints.{Offered, Broken}
use Rattle.plan.specs.Verdicts.{Constraint, no_home, one_home, no_timing, no_choice, too_early, overlap, too_late, same_home, is_offered, past_labels, late_at, fails, firsts, seconds}

is_none_true : {X : Type 0} (o : Option X) → is_none o ≡ true → o ≡ None
is_none_true o e = search rules

any_in : (l : ℕ) (ms : List ℕ) → any (eqb l) ms ≡ true → In l ms
any_in l [] e = absurd (false≢true e)
any_in l (m ∷ ms) e = elim (or_cases (eqb l m) (any (eqb l) ms) e) [ inl t ↦ inl (eqb-true l m t) | inr h ↦ inr (any_in l ms h) ]

in_any : (l : ℕ) (ms : List ℕ) → In l ms → any (eqb l) ms ≡ true
in_any l [] h = absurd h
in_any l (m ∷ ms) (inl e) = ap (λ t. t || any (eqb l) ms) (eq-eqb l m e)
in_any l (m ∷ ms) (inr h) = elim (cases_Bool (eqb l m)) [ inl t ↦ ap (λ x. x || any (eqb l) ms) t | inr f ↦ ap (λ x. x || any (eqb l) ms) f ∙ in_any l ms h ]

common_any : (xs ys : List ℕ) → Common xs ys → any (λ l. any (eqb l) ys) xs ≡ true
common_any [] ys c = absurd c.1
common_any (x ∷ xs) ys (c, inl e, i) = ap (λ t. t || any (λ l. any (eqb l) ys) xs) (in_any x ys (subst (λ n. In n ys) e i))
common_any (x ∷ xs) ys (c, inr h, i) =
    elim (cases_Bool (any (eqb x) ys)) [ inl t ↦ ap (λ u. u || any (λ l. any (eqb l) ys) xs) t | inr f ↦ ap (λ u. u || any (λ l. any (eqb l) ys) xs) f ∙ common_any xs ys (c, h, i) ]

any_common : (xs ys : List ℕ) → any (λ l. any (eqb l) ys) xs ≡ true → Common xs ys
any_common [] ys e = absurd (false≢true e)
any_common (x ∷ xs) ys e =
    elim (or_cases (any (eqb x) ys) (any (λ l. any (eqb l) ys) xs) e) [ inl t ↦ (x, inl refl, any_in x ys t) | inr h ↦ let c = any_common xs ys h in (c.0, inr c.1, c.2) ]

place_below : (q l : ℕ) (x : Action) → wire_at q x ≡ Some l → q < 2
place_below q l x e = search rules

label_past : (l : ℕ) (x : Action) → In l (wires x) → l < past_labels x
label_past l x h = search rules

pub offered_from : (R : Route) (x : Action) (c : ℕ) → is_offered R.choices x c ≡ true → Offered R x c
offered_from R x c e = search rules

pub from_offered : (R : Route) (x : Action) (c : ℕ) → Offered R x c → is_offered R.choices x c ≡ true
from_offered R x c o = search rules

same_home-has : (o q : Option ℕ) → same_home o q ≡ true → (c : ℕ) × (o ≡ Some c) × (q ≡ Some c)
same_home-has o q e = search rules

has-same_home : (o q : Option ℕ) (c : ℕ) → o ≡ Some c → q ≡ Some c → same_home o q ≡ true
has-same_home o q c e f = search rules

module _ (p : Plan) (R : Route) where
  late-has : (e : ℕ) (o : Option ℕ) → late_at p e o ≡ true → (l : ℕ) × (o ≡ Some l) × (window p l < e)
  late-has e None h = absurd (false≢true h)
  late-has e (Some l) h = (l, refl, ltb-true (window p l) e h)

  -- the constraint is broken at two places, of which the second of a window is the label's place in the gate
  abbrev pub At : Constraint → ℕ → ℕ → Type 0
  At no_home l j = (j ≡ 0) × Broken p R (Refusal.NoHome l)
  At one_home l m = Broken p R (Refusal.SharedHome l m)
  At no_timing g j = (j ≡ 0) × Broken p R (Refusal.NoTiming g)
  At no_choice g j = (j ≡ 0) × Broken p R (Refusal.ChoiceNotOffered g)
  At too_early i j = Broken p R (Refusal.TooEarly i j)
  At overlap i j = Broken p R (Refusal.Overlap i j)
  At too_late g q = (g < gate_count p) × ((l : ℕ) × (wire_at q (action_at p g) ≡ Some l) × (window p l < end_at p R g))

  -- a test that fails breaks the constraint
  pub sound : (c : Constraint) (i j : ℕ) → i < firsts p R c → j < seconds p R c → fails p R c i j ≡ true → At c i j
  sound no_home l j u v e =
      let a = and_parts (is_none (home_at p l)) _ e in
      let q = any-has (λ g. names g.action l) p.gates no_gate a.1 in
      (omega arith, (is_none_true (home_at p l) a.0, (q.0, q.1, any_in l (labels_at p q.0) q.2)))
  sound one_home l m u v e =
      let a = and_parts (ltb l m) _ e in
      (ltb-true l m a.0, v, same_home-has (home_at p l) (home_at p m) a.1)
  sound no_timing g j u v e = (omega arith, (u, is_none_true (timing_at p g) e))
  sound no_choice g j u v e =
      (omega arith, (u, λ o. both_ways (is_offered R.choices (action_at p g) (choice_at p g)) (not-true _ e) (from_offered R (action_at p g) (choice_at p g) o)))
  sound too_early i j u v e =
      let a = and_parts (ltb i j) _ e in
      let q = and_parts (ltb (start_at p j) (end_at p R i)) _ a.1 in
      (ltb-true i j a.0, v, any_common (labels_at p i) (labels_at p j) q.1, ltb-true (start_at p j) (end_at p R i) q.0)
  sound overlap i j u v e =
      let a = and_parts (ltb i j) _ e in
      let q = and_parts (ltb (start_at p i) (end_at p R j)) _ a.1 in
      let r = and_parts (ltb (start_at p j) (end_at p R i)) _ q.1 in
      let s = some_below-has (λ c. reserved p R i c && reserved p R j c) (cells p.machine) r.1 in
      let t = and_parts (reserved p R i s.0) (reserved p R j s.0) s.2 in
      (ltb-true i j a.0, v, (s.0, s.1, t.0, t.1), ltb-true (start_at p i) (end_at p R j) q.0, ltb-true (start_at p j) (end_at p R i) r.0)
  sound too_late g q u v e = (u, late-has (end_at p R g) (wire_at q (action_at p g)) e)

  pub record Found (c : Constraint) (i j : ℕ) : Type 0 where
    pub first : i < firsts p R c
    pub second : j < seconds p R c
    pub fail : fails p R c i j ≡ true

  -- a broken constraint fails its test, at places that are searched
  pub whole : (c : Constraint) (i j : ℕ) → At c i j → Found c i j
  whole no_home l j (z, (n, (g, h, k))) = record {
    first = let a = highest-bound (λ x. past_labels (action_at p x)) (gate_count p) g h in let b = label_past l (action_at p g) k in omega arith;
    second = omega arith;
    fail = and_from (is_none (home_at p l)) _ (ap is_none n) (any-from (λ x. names x.action l) p.gates no_gate g h (in_any l (labels_at p g) k));
  }
  whole one_home l m (u, v, (c, e, f)) = record { first = omega arith; second = v; fail = and_from (ltb l m) _ (lt-ltb l m u) (has-same_home (home_at p l) (home_at p m) c e f) }
  whole no_timing g j (z, (u, n)) = record { first = u; second = omega arith; fail = ap is_none n }
  whole no_choice g j (z, (u, n)) = record {
    first = u;
    second = omega arith;
    fail = elim (cases_Bool (is_offered R.choices (action_at p g) (choice_at p g))) [ inl t ↦ absurd (n (offered_from R (action_at p g) (choice_at p g) t)) | inr f ↦ not_from_false _ f ];
  }
  whole too_early i j (u, v, c, w) = record {
    first = omega arith;
    second = v;
    fail = and_from (ltb i j) _ (lt-ltb i j u) (and_from (ltb (start_at p j) (end_at p R i)) _ (lt-ltb (start_at p j) (end_at p R i) w) (common_any (labels_at p i) (labels_at p j) c));
  }
  whole overlap i j (u, v, (c, h, r, s), w, x) = record {
    first = omega arith;
    second = v;
    fail = and_from (ltb i j) _ (lt-ltb i j u)
        (and_from (ltb (start_at p i) (end_at p R j)) _ (lt-ltb (start_at p i) (end_at p R j) w)
        (and_from (ltb (start_at p j) (end_at p R i)) _ (lt-ltb (start_at p j) (end_at p R i) x)
        (some_below-from (λ d. reserved p R i d && reserved p R j d) (cells p.machine) c h (and_from (reserved p R i c) (reserved p R j c) r s))));
  }
  whole too_late g q (u, (l, h, w)) = record {
    first = u;
    second = place_below q l (action_at p g) h;
    fail = ap (late_at p (end_at p R g)) h ∙ lt-ltb (window p l) (end_at p R g) w;
  }
