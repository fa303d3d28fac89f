use Rattle.circuit.specs.Operations.{operation_before}
use Rattle.joining.specs.Joined.{Joined}
use Rattle.lister.proofs.FirstBlocks.{first_blocks}
use Rattle.lister.proofs.blocks.push_gates.Given as goal

abbrev pub invariant-loop-i : goal.invariant-loop-i
invariant-loop-i g l = Joined operation_before (first_blocks l.layout (g.R.RouteRule.route l.rule) l.gates l.i) l.initial.queue l.queue
