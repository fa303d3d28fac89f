-- Judging: the constraints as tests, the first that is broken, and the law above it. Assumes nothing.
use Rattle.std.specs.Prelude.{is_none, ◌≡◌, ℕ, suc, ◌<◌, ◌≤◌, max, Bool, true, false, not, ◌&&◌, ◌⊎◌, List, [], ◌∷◌, is_ok, Some, None, Ok, Err, Option, Result, ◌==◌, nat_lt}
use Rattle.std.specs.Option.{option_map}
use Rattle.orders.specs.Lists.{any}
use Rattle.search.specs.Searches.{some_below, highest, scan_pairs}
use Rattle.refusal.specs.declared.Refusal.{Refusal}
use Rattle.refusal.specs.Refusals.{refuse_if, or_else, ok_unless}
use Rattle.circuit.specs.declared.action.Action.{Action}
use Rattle.circuit.specs.Actions.{names, share, wire_at}
use Rattle.grid.specs.Grids.{cells}
use Rattle.route.specs.Routes.{Route}
use Rattle.plan.specs.Plans.{Plan, labels, gate_count, action_at, timing_at, start_at, choice_at, home_at, home, window}
use Rattle.plan.specs.Durations.{end_at, reserved}
use Rattle.plan.specs.Constraints.{Broken, BreaksNone, Before}

-- the constraints in the order in which they are tested: 21 to 27
pub data Constraint : Type 0 where
  no_home : Constraint
  one_home : Constraint
  no_timing : Constraint
  no_choice : Constraint
  too_early : Constraint
  overlap : Constraint
  too_late : Constraint

-- both are placed, on one cell
abbrev pub same_home : Option ℕ → Option ℕ → Bool
same_home None o = false
same_home (Some c) None = false
same_home (Some c) (Some d) = c == d

-- the choice is offered, where there are so many
abbrev pub is_offered : ℕ → Action → ℕ → Bool
is_offered n (Action.One k l) c = c == 0
is_offered n (Action.Cnot l m) c = nat_lt c n

-- one more than the greatest label of an action
abbrev pub past_labels : Action → ℕ
past_labels (Action.One k l) = suc l
past_labels (Action.Cnot l m) = suc (max l m)

module _ (p : Plan) where
  -- the window of the label's home is over at e
  abbrev pub late_at : ℕ → Option ℕ → Bool
  late_at e None = false
  late_at e (Some l) = nat_lt (window p l) e

  -- the label's home, or 0 where there is no label
  abbrev pub home_or : Option ℕ → ℕ
  home_or None = 0
  home_or (Some l) = home p l

module _ (p : Plan) (R : Route) where
  -- the test of a constraint at two places; of a window the second is the label's place in the gate
  abbrev pub fails : Constraint → ℕ → ℕ → Bool
  fails no_home l j = is_none (home_at p l) && any (λ g. names g.action l) p.gates
  fails one_home l m = nat_lt l m && same_home (home_at p l) (home_at p m)
  fails no_timing g j = is_none (timing_at p g)
  fails no_choice g j = not (is_offered R.choices (action_at p g) (choice_at p g))
  fails too_early i j = nat_lt i j && (nat_lt (start_at p j) (end_at p R i) && share (action_at p i) (action_at p j))
  fails overlap i j = nat_lt i j && (nat_lt (start_at p i) (end_at p R j) && (nat_lt (start_at p j) (end_at p R i) && some_below (λ c. reserved p R i c && reserved p R j c) (cells p.machine)))
  fails too_late g q = late_at p (end_at p R g) (wire_at q (action_at p g))

  -- how many first places there are; of a missing home, all labels up to the greatest that is used
  abbrev pub firsts : Constraint → ℕ
  firsts no_home = highest (λ g. past_labels (action_at p g)) (gate_count p)
  firsts one_home = labels p
  firsts no_timing = gate_count p
  firsts no_choice = gate_count p
  firsts too_early = gate_count p
  firsts overlap = gate_count p
  firsts too_late = gate_count p

  -- how many second places there are
  abbrev pub seconds : Constraint → ℕ
  seconds no_home = 1
  seconds one_home = labels p
  seconds no_timing = 1
  seconds no_choice = 1
  seconds too_early = gate_count p
  seconds overlap = gate_count p
  seconds too_late = 2

  -- the refusal that names a broken constraint
  abbrev pub naming : Constraint → ℕ × ℕ → Refusal
  naming no_home q = Refusal.NoHome q.0
  naming one_home q = Refusal.SharedHome q.0 q.1
  naming no_timing q = Refusal.NoTiming q.0
  naming no_choice q = Refusal.ChoiceNotOffered q.0
  naming too_early q = Refusal.TooEarly q.0 q.1
  naming overlap q = Refusal.Overlap q.0 q.1
  naming too_late q = Refusal.PastWindow q.0 (home_or p (wire_at q.1 (action_at p q.0)))

  -- where the constraint is broken, at its lowest places
  abbrev pub found : Constraint → Option Refusal
  found c = option_map (naming c) (scan_pairs (fails c) (firsts c) (seconds c))

  -- the first of the constraints that is broken
  abbrev pub first_of : List Constraint → Option Refusal
  first_of [] = None
  first_of (c ∷ cs) = or_else (found c) (first_of cs)

  -- the first of all
  abbrev pub first_broken : Option Refusal
  first_broken = first_of (no_home ∷ one_home ∷ no_timing ∷ no_choice ∷ too_early ∷ overlap ∷ too_late ∷ [])

  -- the latest end of all gates
  abbrev pub latest_end : ℕ
  latest_end = highest (end_at p R) (gate_count p)

  -- what judging answers: the latest end, or the refusal
  abbrev pub verdict : Result ℕ Refusal
  verdict = ok_unless first_broken latest_end

  -- the same for a list of any length: more than 256 gates are refused first
  abbrev pub judged : Result ℕ Refusal
  judged = ok_unless (or_else (refuse_if (nat_lt 256 (gate_count p)) Refusal.ProgramFull) first_broken) latest_end

  -- e is the latest end, or 0 where there is no gate
  pub record Latest (e : ℕ) : Type 0 where
    pub bound : (i : ℕ) → i < gate_count p → end_at p R i ≤ e
    pub met : (e ≡ 0) ⊎ ((i : ℕ) × (i < gate_count p) × (end_at p R i ≡ e))

  -- the refusal is of a broken constraint, and none that is tested before it is broken
  pub record NamesFirst (r : Refusal) : Type 0 where
    pub broken : Broken p R r
    pub none_before : (q : Refusal) → Before p R q r → Broken p R q → ⊥

  -- the plan passes exactly when it breaks no constraint; otherwise the first broken one is named
  pub record Fair (answer : Result ℕ Refusal) : Type 0 where
    pub passes : (e : ℕ) → answer ≡ Ok e → BreaksNone p R × Latest e
    pub must_pass : BreaksNone p R → is_ok answer ≡ true
    pub names_first : (r : Refusal) → answer ≡ Err r → NamesFirst r
