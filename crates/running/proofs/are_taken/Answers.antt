use Rattle.std.proofs.Common.{arith}
use Rattle.running.proofs.Fitting.{all_fit}
use Rattle.running.proofs.are_taken.Goals as goal

pub returns : goal.returns
returns g c e = all_fit _ _ c.args.operations.now c.loop-operation.operation-index (omega arith) c.loop-operation.invariant
