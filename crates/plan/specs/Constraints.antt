-- The constraints on a plan, each by the refusal that names it. Assumes nothing.
use Rattle.std.specs.Prelude.{◌≡◌, ℕ, ◌<◌, true, cond, ◌⊎◌, Some, None, ◌==◌}
use Rattle.orders.specs.Lists.{In, Common}
use Rattle.search.specs.Searches.{Earlier}
use Rattle.refusal.specs.declared.Refusal.{Refusal}
use Rattle.refusal.specs.Refusals.{shown, number}
use Rattle.circuit.specs.declared.action.Action.{Action}
use Rattle.circuit.specs.Actions.{first_wire}
use Rattle.grid.specs.Grids.{cells}
use Rattle.route.specs.Routes.{Route}
use Rattle.plan.specs.Plans.{Plan, labels, gate_count, action_at, timing_at, labels_at, start_at, choice_at, home_at, home, values_of}
use Rattle.plan.specs.Durations.{end_at, reserved}

-- the choice is offered; a gate on one label has choice 0 only
abbrev pub Offered : Route → Action → ℕ → Type 0
Offered R (Action.One k l) c = c ≡ 0
Offered R (Action.Cnot l m) c = c < R.choices

module _ (p : Plan) (R : Route) where
  -- the plan breaks the constraint that the refusal names, at the places that it names
  abbrev pub Broken : Refusal → Type 0
  -- a label that a gate uses has no home
  Broken (Refusal.NoHome l) = (home_at p l ≡ None) × ((g : ℕ) × (g < gate_count p) × In l (labels_at p g))
  -- two placed labels have one home
  Broken (Refusal.SharedHome l m) = (l < m) × (m < labels p) × ((c : ℕ) × (home_at p l ≡ Some c) × (home_at p m ≡ Some c))
  -- a gate has no timing
  Broken (Refusal.NoTiming g) = (g < gate_count p) × (timing_at p g ≡ None)
  -- a gate's choice is not offered
  Broken (Refusal.ChoiceNotOffered g) = (g < gate_count p) × (Offered R (action_at p g) (choice_at p g) → ⊥)
  -- two gates share a label, and the later one in the program starts before the other ends
  Broken (Refusal.TooEarly i j) = (i < j) × (j < gate_count p) × Common (labels_at p i) (labels_at p j) × (start_at p j < end_at p R i)
  -- two gates reserve a common cell, and each starts before the other ends
  Broken (Refusal.Overlap i j) = (i < j) × (j < gate_count p) × ((c : ℕ) × (c < cells p.machine) × (reserved p R i c ≡ true) × (reserved p R j c ≡ true)) × (start_at p i < end_at p R j) × (start_at p j < end_at p R i)
  -- a gate ends after the window of the home of one of its labels
  Broken (Refusal.PastWindow g c) = (g < gate_count p) × ((l : ℕ) × In l (labels_at p g) × (home p l ≡ c)) × ((values_of p c).window < end_at p R g)
  -- the other refusals name no constraint on plans
  Broken Refusal.MachineSize = ⊥
  Broken Refusal.LabelCount = ⊥
  Broken Refusal.UnknownKind = ⊥
  Broken (Refusal.NoSuchLabel l) = ⊥
  Broken Refusal.SameLabel = ⊥
  Broken (Refusal.AlreadyRead l) = ⊥
  Broken Refusal.ProgramFull = ⊥
  Broken (Refusal.NoSuchCell c) = ⊥
  Broken (Refusal.ValueOutOfRange c) = ⊥
  Broken (Refusal.NoSuchGate g) = ⊥
  Broken (Refusal.StartTooLarge g) = ⊥
  Broken (Refusal.ChoiceTooLarge g) = ⊥
  Broken Refusal.TooFewPlaces = ⊥
  Broken (Refusal.NotOnWires i) = ⊥
  Broken (Refusal.KindNotTaken i) = ⊥
  Broken Refusal.TooManyH = ⊥
  Broken Refusal.MalformedLine = ⊥
  Broken Refusal.WrongState = ⊥
  Broken Refusal.NoMemory = ⊥

  -- no constraint is broken
  abbrev pub BreaksNone : Type 0
  BreaksNone = (r : Refusal) → Broken r → ⊥

  -- 0 for the home of the gate's control or one label, 1 for any other cell
  abbrev pub seat : ℕ → ℕ → ℕ
  seat g c = cond (c == home p (first_wire (action_at p g))) 0 1

  -- the second place by which tests run: of a window the seat of its cell
  abbrev pub test_place : Refusal → ℕ
  test_place r = cond (number r == 27) (seat (shown r).first (shown r).second) (shown r).second

  -- q is tested before r: by number, then by the first place, then by the second
  abbrev pub Before : Refusal → Refusal → Type 0
  Before q r = (number q < number r) ⊎ ((number q ≡ number r) × Earlier (shown q).first (test_place q) (shown r).first (test_place r))
