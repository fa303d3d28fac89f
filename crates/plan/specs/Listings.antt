-- The listing and the agenda. Assumes nothing.
use Rattle.std.specs.Prelude.{◌≡◌, ℕ, ◌<◌, ◌≤◌, List, [], ◌∷◌, Some, None, Option}
use Rattle.std.specs.List.{range_with_len, flat_map, AllByRecursion}
use Rattle.orders.specs.Lists.{AnyByRecursion, In}
use Rattle.orders.specs.Sorting.{sorted, Sorted}
use Rattle.circuit.specs.declared.action.Action.{Action}
use Rattle.circuit.specs.declared.operation.Operation.{Operation}
use Rattle.circuit.specs.Operations.{operation_before, operation_end, Allowed}
use Rattle.grid.specs.Grids.{Grid, Neighbours}
use Rattle.route.specs.Routes.{Route}
use Rattle.plan.specs.declared.gate.Timing.{Timing}
use Rattle.plan.specs.declared.gate.AgendaEntry.{AgendaEntry}
use Rattle.plan.specs.Plans.{Plan, gate_count, timing_at, labels_at, window}
use Rattle.plan.specs.Blocks.{blocks}
use Rattle.plan.specs.Entries.{entry_before}

-- every gate's operations in order of start, first cell and the other fields
abbrev pub listing : Plan → Route → List Operation
listing p R = sorted operation_before (blocks p R)

-- the entry of a gate that has a timing
abbrev pub entry_of : ℕ → Option Timing → List AgendaEntry
entry_of g None = []
entry_of g (Some t) = record { start = t.start; gate = g } ∷ []

-- the entries of the timed gates, in program order
abbrev pub entries : Plan → List AgendaEntry
entries p = flat_map (λ g. entry_of g (timing_at p g)) (range_with_len 0 (gate_count p))

-- the timed gates in order of start, then gate number
abbrev pub agenda : Plan → List AgendaEntry
agenda p = sorted entry_before (entries p)

-- the operation is of a gate of the program, and ends within the windows of the homes of that gate's labels
pub record InWindows (p : Plan) (o : Operation) : Type 0 where
  pub of_program : o.gate < gate_count p
  pub in_time : (l : ℕ) → In l (labels_at p o.gate) → operation_end o ≤ window p l

-- a CNOT joins neighbours
abbrev pub JoinsNeighbours : Grid → Action → Type 0
JoinsNeighbours g (Action.One k a) = Unit {0}
JoinsNeighbours g (Action.Cnot a b) = Neighbours g a b

-- what a reader may expect of a listing
pub record WellListed (p : Plan) (R : Route) (os : List Operation) : Type 0 where
  -- every gate's operations and no others, in order; no other list is so
  pub in_order : Sorted operation_before (blocks p R) os
  -- it is itself in an allowed order
  pub allowed : Allowed os
  -- its CNOTs join neighbours
  pub neighbours : AllByRecursion (λ o. JoinsNeighbours p.machine o.action) os
  -- every gate has operations in it
  pub every_gate : (g : ℕ) → g < gate_count p → AnyByRecursion (λ o. o.gate ≡ g) os
  -- each ends within its gate's windows
  pub windows : AllByRecursion (InWindows p) os
