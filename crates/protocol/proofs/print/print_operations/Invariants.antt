use Rattle.std.proofs.Common.{take}
use Rattle.std.specs.Io.KnownBytes.{Appends}
use Rattle.session.specs.Sessions.{printed, operation_rows}
use Rattle.protocol.proofs.print.print_operations.Given as goal

abbrev pub invariant-loop-operation : goal.invariant-loop-operation
invariant-loop-operation g l = Appends (g.W.Write.contents l.fn.out) (g.W.Write.contents l.out) (printed (operation_rows (take l.operation-index l.operations)))
