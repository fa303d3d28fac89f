-- What the plan of every job keeps. Assumes nothing.
use Rattle.std.specs.Prelude.{◌≡◌, ℕ, ◌<◌, ◌≤◌, true, length, Some, None, slice_index_or}
use Rattle.std.specs.List.{AllByRecursion}
use Rattle.orders.specs.Lists.{Pairs, In}
use Rattle.circuit.specs.Actions.{wires, first_wire, is_read, Distinct}
use Rattle.grid.specs.Grids.{cells, GridFit}
use Rattle.calibration.specs.Calibrations.{InRange}
use Rattle.plan.specs.declared.gate.Gate.{Gate}
use Rattle.plan.specs.Plans.{Plan, labels, gate_count, start_or, choice_or}

-- the second gate does not use a label that the first reads
abbrev pub NotAfterRead : Gate → Gate → Type 0
NotAfterRead g h = is_read g.action ≡ true → In (first_wire g.action) (wires h.action) → ⊥

-- the timing is in range
abbrev pub TimingFit : Gate → Type 0
TimingFit g = (start_or g.timing ≤ 1000000) × (choice_or g.timing ≤ 255)

-- sizes, ranges, homes on the machine, labels of gates, and nothing on a label after its read
pub record Kept (p : Plan) : Type 0 where
  pub grid_fit : GridFit p.machine
  pub some_labels : 1 ≤ labels p
  pub few_labels : labels p ≤ 32
  pub labels_fit : labels p ≤ cells p.machine
  pub few_gates : gate_count p ≤ 256
  pub calibrated : length p.calibration ≡ cells p.machine
  pub in_range : InRange p.machine p.calibration
  pub on_machine : (l c : ℕ) → slice_index_or p.homes l None ≡ Some c → c < cells p.machine
  pub labels_below : AllByRecursion (λ g. AllByRecursion (λ l. l < labels p) (wires g.action)) p.gates
  pub distinct : AllByRecursion (λ g. Distinct g.action) p.gates
  pub timings_fit : AllByRecursion TimingFit p.gates
  pub reads_last : Pairs NotAfterRead p.gates
