use Rattle.std.proofs.Common.{◌≡◌, ◌≤◌, length, map, take}
use Rattle.std.specs.List.{range_with_len}
use Rattle.plan.specs.Blocks.{direct_step}
use Rattle.direct.specs.Directs.{placed_plan}
use Rattle.direct.proofs.steps.write_steps.Given as goal

abbrev pub invariant-loop-number : goal.invariant-loop-number
invariant-loop-number l = record {
  within : l.number ≤ length l.gates;
  written : take l.number l.steps ≡ map (direct_step (placed_plan l.homes l.gates)) (range_with_len 0 l.number);
}
