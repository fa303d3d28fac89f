-- What a direct run is refused for. Assumes nothing.
use Rattle.std.specs.Prelude.{List, [], Option, nat_lt}
use Rattle.refusal.specs.declared.Refusal.{Refusal}
use Rattle.refusal.specs.Refusals.{refuse_if, or_else}
use Rattle.grid.specs.Grids.{grid_of}
use Rattle.plan.specs.declared.gate.Gate.{Gate}
use Rattle.plan.specs.Plans.{Plan, gate_count}
use Rattle.plan.specs.Blocks.{direct}
use Rattle.placement.specs.declared.homes.Homes.{Homes}
use Rattle.placement.specs.Placements.{homes_broken}
use Rattle.register.specs.Runs.{Capacity, running_refusal}

-- the plan of homes and gates; a direct run asks no calibration, so none stands in it
abbrev pub placed_plan : Homes → List Gate → Plan
placed_plan h gs = record { machine = grid_of h.machine; calibration = []; homes = h.cells.now; gates = gs }

-- more than 256 gates, which are no program; then the homes; then as any list of operations
abbrev pub direct_refusal : Capacity → Plan → Option Refusal
direct_refusal r p = or_else (refuse_if (nat_lt 256 (gate_count p)) Refusal.ProgramFull) (or_else (homes_broken p.machine p.homes p.gates) (running_refusal r (direct p)))
