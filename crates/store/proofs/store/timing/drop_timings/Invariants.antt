use Rattle.std.proofs.Common.{◌≡◌, map, ◌++◌, take, drop, None}
use Rattle.plan.specs.Plans.{retimed}
use Rattle.store.proofs.store.timing.drop_timings.Given as goal

abbrev pub invariant-loop-gate : goal.invariant-loop-gate
invariant-loop-gate l = l.gates ≡ map (λ g. retimed g None) (take l.gate-index l.initial.gates) ++ drop l.gate-index l.initial.gates
