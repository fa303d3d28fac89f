-- The book of a job: its plan as the accepted calls have written it, and whether its program is closed. Assumes nothing.
use Rattle.std.specs.Prelude.{ℕ, Bool, false, List, [], ◌∷◌, ◌++◌, map, replicate, Some, None, Option}
use Rattle.circuit.specs.declared.action.Action.{Action}
use Rattle.calibration.specs.declared.values.Calibration.{Calibration}
use Rattle.grid.specs.Grids.{grid}
use Rattle.calibration.specs.Calibrations.{first_calibration}
use Rattle.plan.specs.declared.gate.Gate.{Gate}
use Rattle.plan.specs.Plans.{Plan, retimed, retimed_at}

-- the plan of a job, and whether its program is closed
pub record Book : Type 0 where
  pub plan : Plan
  pub closed : Bool

-- the plan at opening: no gate, no home
abbrev pub opening_plan : ℕ → ℕ → ℕ → Plan
opening_plan w h p = record { machine = grid w h; calibration = first_calibration (grid w h); homes = replicate p None; gates = [] }

-- the book at opening
abbrev pub opening : ℕ → ℕ → ℕ → Book
opening w h p = record { plan = opening_plan w h p; closed = false }

-- the plan with other gates
abbrev pub with_gates : Plan → List Gate → Plan
with_gates p gs = record { machine = p.machine; calibration = p.calibration; homes = p.homes; gates = gs }

-- the plan with another calibration
abbrev pub with_calibration : Plan → List Calibration → Plan
with_calibration p vs = record { machine = p.machine; calibration = vs; homes = p.homes; gates = p.gates }

-- the plan with other homes
abbrev pub with_homes : Plan → List (Option ℕ) → Plan
with_homes p hs = record { machine = p.machine; calibration = p.calibration; homes = hs; gates = p.gates }

-- an action as a gate with no timing
abbrev pub untimed : Action → Gate
untimed x = record { action = x; timing = None }

-- the action as the program's last gate
abbrev pub added : Plan → Action → Plan
added p x = with_gates p (p.gates ++ (untimed x ∷ []))

-- the gate g starting at s under the choice c
abbrev pub timed : Plan → ℕ → ℕ → ℕ → Plan
timed p g s c = with_gates p (retimed_at p.gates g (Some (record { start = s; choice = c })))

-- the gates with no timing
abbrev pub timings_dropped : Plan → Plan
timings_dropped p = with_gates p (map (λ g. retimed g None) p.gates)
