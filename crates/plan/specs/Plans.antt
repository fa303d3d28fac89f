-- A plan by its parts, and what is read off them. Assumes nothing.
use Rattle.std.specs.Prelude.{ℕ, cond, List, length, Some, None, Option, nat_lt, slice_index_or, slice_set}
use Rattle.std.specs.Option.{unwrap_or}
use Rattle.circuit.specs.declared.action.Single.{Single}
use Rattle.circuit.specs.declared.action.Action.{Action}
use Rattle.circuit.specs.Actions.{wires}
use Rattle.grid.specs.Grids.{Grid, cells}
use Rattle.calibration.specs.declared.values.Calibration.{Calibration}
use Rattle.calibration.specs.declared.table.CalibrationTable.{CalibrationTable}
use Rattle.calibration.specs.Calibrations.{values_at, link_time}
use Rattle.calibration.specs.Tables.{table_grid, table_values}
use Rattle.plan.specs.declared.gate.Timing.{Timing}
use Rattle.plan.specs.declared.gate.Gate.{Gate}

-- the machine, each cell's calibration, each label's home or none, and the program's gates with their timings
pub record Plan : Type 0 where
  pub machine : Grid
  pub calibration : List Calibration
  pub homes : List (Option ℕ)
  pub gates : List Gate

-- the plan of a table, homes and gates in code
abbrev pub plan_of : CalibrationTable → List (Option ℕ) → List Gate → Plan
plan_of t hs gs = record { machine = table_grid t; calibration = table_values t; homes = hs; gates = gs }

-- what stands where there is no gate
abbrev pub no_gate : Gate
no_gate = record { action = Action.One Single.H 0; timing = None }

-- the start, or 0
abbrev pub start_or : Option Timing → ℕ
start_or (Some t) = t.start
start_or None = 0

-- the choice, or 0
abbrev pub choice_or : Option Timing → ℕ
choice_or (Some t) = t.choice
choice_or None = 0

-- the gate with another timing
abbrev pub retimed : Gate → Option Timing → Gate
retimed g t = record { action = g.action; timing = t }

-- the gates with another timing of the gate g
abbrev pub retimed_at : List Gate → ℕ → Option Timing → List Gate
retimed_at gs g t = slice_set gs g (retimed (slice_index_or gs g no_gate) t)

-- the cell, where it is one of the grid's
abbrev pub on_grid : Grid → Option ℕ → Option ℕ
on_grid g None = None
on_grid g (Some c) = cond (nat_lt c (cells g)) (Some c) None

-- a label's home: the cell that is written for it, where the grid has that cell
abbrev pub home_among : Grid → List (Option ℕ) → ℕ → Option ℕ
home_among g hs l = on_grid g (slice_index_or hs l None)

module _ (p : Plan) where
  -- how many labels there are
  abbrev pub labels : ℕ
  labels = length p.homes

  -- how many gates there are
  abbrev pub gate_count : ℕ
  gate_count = length p.gates

  -- the gate g
  abbrev pub gate_at : ℕ → Gate
  gate_at g = slice_index_or p.gates g no_gate

  -- the action of the gate g
  abbrev pub action_at : ℕ → Action
  action_at g = (gate_at g).action

  -- the timing of the gate g, or none
  abbrev pub timing_at : ℕ → Option Timing
  timing_at g = (gate_at g).timing

  -- the labels of the gate g, the control before the target
  abbrev pub labels_at : ℕ → List ℕ
  labels_at g = wires (action_at g)

  -- the start of the gate g, or 0
  abbrev pub start_at : ℕ → ℕ
  start_at g = start_or (timing_at g)

  -- the choice of the gate g, or 0
  abbrev pub choice_at : ℕ → ℕ
  choice_at g = choice_or (timing_at g)

  -- the label's home, or none
  abbrev pub home_at : ℕ → Option ℕ
  home_at l = home_among p.machine p.homes l

  -- the label's home, or 0
  abbrev pub home : ℕ → ℕ
  home l = unwrap_or (home_at l) 0

  -- the calibration of the cell c
  abbrev pub values_of : ℕ → Calibration
  values_of c = values_at p.calibration c

  -- the window of the label's home
  abbrev pub window : ℕ → ℕ
  window l = (values_of (home l)).window

  -- the time of the link between two neighbours
  abbrev pub time_between : ℕ → ℕ → ℕ
  time_between c d = link_time p.machine p.calibration c d
