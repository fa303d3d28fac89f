-- The agenda of gates, and what writing it refuses. Assumes nothing.
use Rattle.std.specs.Prelude.{ℕ, List, [], length, Option, nat_lt}
use Rattle.refusal.specs.declared.Refusal.{Refusal}
use Rattle.refusal.specs.Refusals.{refuse_if, or_else}
use Rattle.grid.specs.Grids.{grid}
use Rattle.plan.specs.declared.gate.Gate.{Gate}
use Rattle.plan.specs.declared.gate.AgendaEntry.{AgendaEntry}
use Rattle.plan.specs.Plans.{Plan}
use Rattle.plan.specs.Listings.{entries, agenda}

-- a plan of these gates; the agenda of every plan of the same gates is the same, since it reads nothing else
abbrev pub gates_plan : List Gate → Plan
gates_plan gs = record { machine = grid 1 1; calibration = []; homes = []; gates = gs }

-- the timed gates' entries, in program order
abbrev pub gate_entries : List Gate → List AgendaEntry
gate_entries gs = entries (gates_plan gs)

-- the timed gates in order of start, then gate number
abbrev pub gate_agenda : List Gate → List AgendaEntry
gate_agenda gs = agenda (gates_plan gs)

-- why the agenda is not written to so many places: there are more than 256 gates, or fewer places than entries
abbrev pub agenda_refusal : List Gate → ℕ → Option Refusal
agenda_refusal gs places = or_else (refuse_if (nat_lt 256 (length gs)) Refusal.ProgramFull) (refuse_if (nat_lt places (length (gate_agenda gs))) Refusal.TooFewPlaces)
