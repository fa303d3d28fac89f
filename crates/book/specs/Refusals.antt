-- What each call is refused for: the tests in their order. Assumes nothing.
use Rattle.std.specs.Prelude.{ℕ, ◌*◌, Bool, not, ◌&&◌, leb, List, [], ◌∷◌, length, Some, None, Option, ◌==◌, nat_le, nat_lt}
use Rattle.orders.specs.Lists.{any}
use Rattle.circuit.specs.declared.action.Action.{Action}
use Rattle.refusal.specs.declared.Refusal.{Refusal}
use Rattle.circuit.specs.Actions.{action_of}
use Rattle.circuit.specs.Actions.{wires, first_wire, is_read, is_twice}
use Rattle.refusal.specs.Refusals.{refuse_if, or_else}
use Rattle.grid.specs.Grids.{between, cells}
use Rattle.calibration.specs.Calibrations.{calibrating_refusal}
use Rattle.plan.specs.declared.gate.Gate.{Gate}
use Rattle.plan.specs.Plans.{Plan, labels, gate_count}
use Rattle.plan.specs.Blocks.{direct}
use Rattle.plan.specs.Verdicts.{first_broken}
use Rattle.plan.specs.Listings.{listing, agenda as agenda_of}
use Rattle.placement.specs.Placements.{homes_broken}
use Rattle.register.specs.Runs.{running_refusal}
use Rattle.book.specs.Books.{Book, timed}
use Rattle.book.specs.Calls.{Call, add, close, calibrate, place, time, try, judge, agenda, list, run, reopen}

-- the refusal of the first number of a list for which the test holds
abbrev pub refuse_first : (ℕ → Refusal) → (ℕ → Bool) → List ℕ → Option Refusal
refuse_first names test [] = None
refuse_first names test (l ∷ ls) = or_else (refuse_if (test l) (names l)) (refuse_first names test ls)

-- opening: the machine's size, then the number of labels
abbrev pub opening_refusal : ℕ → ℕ → ℕ → Option Refusal
opening_refusal w h p = or_else (refuse_if (not (between 1 8 w && between 1 8 h)) Refusal.MachineSize) (refuse_if (not (between 1 32 p && nat_le p (h * w))) Refusal.LabelCount)

-- the label was read
abbrev pub was_read : List Gate → ℕ → Bool
was_read gs l = any (λ g. is_read g.action && first_wire g.action == l) gs

-- adding: no such kind, no such label, one label twice, a label read already, a full program
abbrev pub adding_refusal : Plan → Option Action → Option Refusal
adding_refusal p None = Some Refusal.UnknownKind
adding_refusal p (Some x) =
    or_else (refuse_first Refusal.NoSuchLabel (λ l. leb (labels p) l) (wires x))
    (or_else (refuse_if (is_twice x) Refusal.SameLabel)
    (or_else (refuse_first Refusal.AlreadyRead (was_read p.gates) (wires x))
    (refuse_if (nat_le 256 (gate_count p)) Refusal.ProgramFull)))

-- placing: no such label, no such cell
abbrev pub placing_refusal : Plan → ℕ → ℕ → Option Refusal
placing_refusal p l c = or_else (refuse_if (nat_le (labels p) l) (Refusal.NoSuchLabel l)) (refuse_if (nat_le (cells p.machine) c) (Refusal.NoSuchCell c))

-- timing: no such gate, the start, the choice
abbrev pub timing_refusal : Plan → ℕ → ℕ → ℕ → Option Refusal
timing_refusal p g s c =
    or_else (refuse_if (nat_le (gate_count p) g) (Refusal.NoSuchGate g))
    (or_else (refuse_if (nat_lt 1000000 s) (Refusal.StartTooLarge g)) (refuse_if (nat_lt 255 c) (Refusal.ChoiceTooLarge g)))

-- what a call is refused for
abbrev pub refusal : Book → Call → Option Refusal
refusal b (add letter l m) = adding_refusal b.plan (action_of letter l m)
refusal b close = None
refusal b (calibrate c v) = calibrating_refusal b.plan.machine c v
refusal b (place l c) = placing_refusal b.plan l c
refusal b (time g s c) = timing_refusal b.plan g s c
refusal b (try R g s c) = or_else (timing_refusal b.plan g s c) (first_broken (timed b.plan g s c) R)
refusal b (judge R) = first_broken b.plan R
refusal b (agenda n) = refuse_if (nat_lt n (length (agenda_of b.plan))) Refusal.TooFewPlaces
refusal b (list R n) = or_else (first_broken b.plan R) (refuse_if (nat_lt n (length (listing b.plan R))) Refusal.TooFewPlaces)
refusal b (run r) = or_else (homes_broken b.plan.machine b.plan.homes b.plan.gates) (running_refusal r (direct b.plan))
refusal b reopen = None
