-- The direct run of a job's plan is refused as the job says. Assumes nothing.
use Rattle.std.proofs.Common.{◌≡◌, ◌≤◌, Bool, List, length, ap, le-ltb}
use Rattle.calibration.specs.declared.values.Calibration.{Calibration}
use Rattle.refusal.specs.declared.Refusal.{Refusal}
use Rattle.refusal.specs.Refusals.{refuse_if, or_else}
use Rattle.grid.specs.Grids.{grid_of}
use Rattle.plan.specs.declared.gate.Gate.{Gate}
use Rattle.plan.specs.Plans.{Plan}
use Rattle.plan.specs.Blocks.{direct}
use Rattle.placement.specs.declared.homes.Homes.{Homes}
use Rattle.placement.specs.Placements.{homes_broken}
use Rattle.register.specs.Runs.{Capacity, running_refusal}
use Rattle.book.specs.Calls.{run}
use Rattle.book.specs.Refusals.{refusal}
use Rattle.direct.specs.Directs.{placed_plan, direct_refusal}

-- the plan of homes and gates, with a calibration
abbrev pub calibrated_plan : Homes → List Calibration → List Gate → Plan
calibrated_plan h vs gs = record { machine = grid_of h.machine; calibration = vs; homes = h.cells.now; gates = gs }

-- a plan of at most 256 gates, as every job's is
pub direct_refused : (r : Capacity) (h : Homes) (vs : List Calibration) (gs : List Gate) (closed : Bool) → length gs ≤ 256
    → direct_refusal r (placed_plan h gs) ≡ refusal (record { plan = calibrated_plan h vs gs; closed = closed }) (run r)
direct_refused r h vs gs closed few =
    ap (λ t. or_else (refuse_if t Refusal.ProgramFull) (or_else (homes_broken (grid_of h.machine) h.cells.now gs) (running_refusal r (direct (placed_plan h gs))))) (le-ltb 256 (length gs) few)
