-- What is so of the gates of a plan that breaks no constraint. Assumes nothing.
use Rattle.std.proofs.Common.{◌≡◌, ℕ, ◌+◌, ◌<◌, ◌≤◌, true, false, cond, eqb, ltb, ◌⊎◌, ◌≢◌, Some, None, Option, unwrap_or, zero-add, sym, refl, ap, ◌∙◌, subst, inl, inr, arith}
use Rattle.std.specs.List.{AllByRecursion}
use Rattle.std.proofs.ByRecursion.{All-get_or}
use Rattle.std.proofs.lemmas.Bool.{cases_lt, cases_order, cases_Bool, and_from, both_ways, eqb-true, lt-ltb, not_from_false}
use Rattle.std.proofs.lemmas.List.{get_or_past}
use Rattle.orders.specs.Lists.{In, Common}
use Rattle.orders.proofs.Pairs.{all_in, all_from_in}
use Rattle.refusal.specs.declared.Refusal.{Refusal}
use Rattle.circuit.specs.declared.action.Action.{Action}
use Rattle.circuit.specs.Actions.{wires, Distinct}
use Rattle.grid.specs.Grids.{Grid, cells}
use Rattle.route.specs.Ends.{apart_cells}
use Rattle.route.specs.Routes.{Route, Runs, RouteLawful}
use Rattle.cnot.specs.Links.{links}
use Rattle.cnot.specs.Steps.{lasting}
use Rattle.cnot.proofs.Routed.{lasting-routed}
use Rattle.plan.specs.declared.gate.Timing.{Timing}
use Rattle.plan.specs.Plans.{Plan, no_gate, on_grid, labels, gate_count, action_at, timing_at, labels_at, start_at, choice_at, home_at, home, window, time_between}
use Rattle.plan.specs.Durations.{path_over, path_of, duration_of, end_at, reserved_over, reserved_of, reserved}
use Rattle.plan.specs.Constraints.{Offered, BreaksNone}
use Rattle.plan.specs.Verdicts.{is_offered}
use Rattle.plan.specs.Kept.{Kept}
use Rattle.plan.specs.Blocks.{steps_of, steps}
use Rattle.plan.proofs.Homes.{home_below}
use Rattle.plan.proofs.Reserved.{reserved_below}
use Rattle.plan.proofs.Tests.{offered_from, from_offered}

some_or : {X : Type 0} (o : Option X) → (o ≡ None → ⊥) → (x : X) × (o ≡ Some x)
some_or None n = absurd (n refl)
some_or (Some x) n = (x, refl)

none_or_some : {X : Type 0} (x : X) → Some x ≡ None → ⊥
none_or_some x e = cc

duration_is : (p : Plan) (R : Route) (c : ℕ) (x : Action) → duration_of p R c x ≡ lasting (steps_of p R c x)
duration_is p R c (Action.One k l) = sym (zero-add _)
duration_is p R c (Action.Cnot l m) = sym (lasting-routed (links (time_between p) (path_of p R c l m)))

-- a gate lasts as long as its operations
pub end_is : (p : Plan) (R : Route) (g : ℕ) → end_at p R g ≡ start_at p g + lasting (steps p R g)
end_is p R g = ap (λ n. start_at p g + n) (duration_is p R (choice_at p g) (action_at p g))

-- the label has a home
abbrev pub Homed : Plan → ℕ → Type 0
Homed p l = (c : ℕ) × (home_at p l ≡ Some c)

-- homes that differ, and a lawful path between them
abbrev pub Led : Plan → Route → ℕ → Action → Type 0
Led p R c (Action.One k l) = Unit {0}
Led p R c (Action.Cnot l m) = (home p l ≢ home p m) × Runs p.machine (home p l) (home p m) (path_of p R c l m) (reserved_of p R c (Action.Cnot l m))

-- two different cells are apart
are_apart : (g : Grid) (a z : ℕ) → a < cells g → z < cells g → a ≢ z → apart_cells g a z ≡ Some (record { grid = g; from = a; to = z })
are_apart g a z h k n =
    let differ : eqb a z ≡ false = elim (cases_Bool (eqb a z)) [ inl t ↦ absurd (n (eqb-true a z t)) | inr f ↦ f ] in
    let test = and_from (ltb a (cells g)) _ (lt-ltb a (cells g) h) (and_from (ltb z (cells g)) _ (lt-ltb z (cells g) k) (not_from_false (eqb a z) differ)) in
    ap (λ t. cond t (Some (record { grid = g; from = a; to = z })) None) test

module _ (p : Plan) (R : Route) (k : Kept p) (lawful : RouteLawful R) (none : BreaksNone p R) where
  label_below : (g l : ℕ) → g < gate_count p → In l (labels_at p g) → l < labels p
  label_below g l h i = all_in (λ x. x < labels p) (labels_at p g) l (All-get_or (λ x. AllByRecursion (λ y. y < labels p) (wires x.action)) p.gates g no_gate h k.labels_below) i

  -- a gate's labels have homes
  pub homed : (g l : ℕ) → g < gate_count p → In l (labels_at p g) → Homed p l
  homed g l h i = some_or (home_at p l) (λ e. none (Refusal.NoHome l) (e, (g, h, i)))

  pub all_homed : (g : ℕ) → g < gate_count p → AllByRecursion (Homed p) (labels_at p g)
  all_homed g h = all_from_in (Homed p) (labels_at p g) (λ l i. homed g l h i)

  placed_below : (l c : ℕ) → home_at p l ≡ Some c → l < labels p
  placed_below l c e = elim (cases_lt l (labels p)) [ inl h ↦ h | inr h ↦ absurd (none_or_some c (sym e ∙ ap (on_grid p.machine) (get_or_past p.homes l None h))) ]

  apart_homes : (l m c : ℕ) → l < m → home_at p l ≡ Some c → home_at p m ≡ Some c → ⊥
  apart_homes l m c h e f = none (Refusal.SharedHome l m) (h, placed_below m c f, (c, e, f))

  -- every gate has a timing
  pub timed : (g : ℕ) → g < gate_count p → (t : Timing) × (timing_at p g ≡ Some t)
  timed g h = some_or (timing_at p g) (λ e. none (Refusal.NoTiming g) (h, e))

  -- every choice is offered
  pub offered : (g : ℕ) → g < gate_count p → Offered R (action_at p g) (choice_at p g)
  offered g h =
      elim (cases_Bool (is_offered R.choices (action_at p g) (choice_at p g))) [
        | inl t ↦ offered_from R (action_at p g) (choice_at p g) t
        | inr f ↦ absurd (none (Refusal.ChoiceNotOffered g) (h, λ o. both_ways _ f (from_offered R (action_at p g) (choice_at p g) o)))
      ]

  -- labels of one home are one label
  pub one_home : (l m : ℕ) → Homed p l → Homed p m → home p l ≡ home p m → l ≡ m
  one_home l m h j e = go (cases_order l m)
    where
      f : h.0 ≡ j.0
      f = sym (ap (λ o. unwrap_or o 0) h.1) ∙ e ∙ ap (λ o. unwrap_or o 0) j.1

      go : (l ≡ m) ⊎ ((l < m) ⊎ (m < l)) → l ≡ m
      go (inl a) = a
      go (inr (inl a)) = absurd (apart_homes l m j.0 a (h.1 ∙ ap Some f) j.1)
      go (inr (inr a)) = absurd (apart_homes m l h.0 a (j.1 ∙ ap Some (sym f)) h.1)

  led_of : (c : ℕ) (x : Action) → Distinct x → AllByRecursion (Homed p) (wires x) → Offered R x c → Led p R c x
  led_of c (Action.One q l) d h o = tt
  led_of c (Action.Cnot l m) d h o =
      let n : home p l ≢ home p m = λ e. d (one_home l m h.0 h.1.0 e) in
      let low = home_below p.machine p.homes l k.grid_fit in
      let high = home_below p.machine p.homes m k.grid_fit in
      let e = are_apart p.machine (home p l) (home p m) low high n in
      (n, subst (λ o. Runs p.machine (home p l) (home p m) (path_over R c o) (reserved_over R c o)) (sym e) (lawful.runs p.machine (home p l) (home p m) c k.grid_fit n low high o))

  -- the route of each gate
  pub led : (g : ℕ) → g < gate_count p → Led p R (choice_at p g) (action_at p g)
  led g h = led_of (choice_at p g) (action_at p g) (All-get_or (λ x. Distinct x.action) p.gates g no_gate h k.distinct) (all_homed g h) (offered g h)

  -- a gate reserves cells of the machine
  pub reserves_below : (g c : ℕ) → g < gate_count p → reserved p R g c ≡ true → c < cells p.machine
  reserves_below g c h e = reserved_below p R (choice_at p g) (action_at p g) c k.grid_fit lawful (offered g h) e

  -- a later gate with a common label starts when the earlier is over
  pub ordered : (i j : ℕ) → i < j → j < gate_count p → Common (labels_at p i) (labels_at p j) → end_at p R i ≤ start_at p j
  ordered i j l m c = elim (cases_lt (start_at p j) (end_at p R i)) [ inl h ↦ absurd (none (Refusal.TooEarly i j) (l, m, c, h)) | inr h ↦ h ]

  -- of two gates that reserve a common cell one is over when the other starts
  pub apart_in_time : (i j : ℕ) → i < j → j < gate_count p → (c : ℕ) → reserved p R i c ≡ true → reserved p R j c ≡ true → (end_at p R i ≤ start_at p j) ⊎ (end_at p R j ≤ start_at p i)
  apart_in_time i j l m c u v =
      elim (cases_lt (start_at p j) (end_at p R i)) [
        | inl h ↦ elim (cases_lt (start_at p i) (end_at p R j)) [
          | inl n ↦ absurd (none (Refusal.Overlap i j) (l, m, (c, reserves_below i c (omega arith) u, u, v), n, h))
          | inr n ↦ inr n
        ]
        | inr h ↦ inl h
      ]

  -- a gate ends within the windows of its labels' homes
  pub in_window : (g l : ℕ) → g < gate_count p → In l (labels_at p g) → end_at p R g ≤ window p l
  in_window g l h i = elim (cases_lt (window p l) (end_at p R g)) [ inl w ↦ absurd (none (Refusal.PastWindow g (home p l)) (h, (l, i, refl), w)) | inr w ↦ w ]
