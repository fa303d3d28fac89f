use Rattle.std.proofs.Common.{ℕ, ◌<◌}
use Rattle.register.specs.Runs.{operation_at}
use Rattle.running.proofs.Fitting.{Fits}
use Rattle.running.proofs.are_taken.Given as goal

abbrev pub invariant-loop-operation : goal.invariant-loop-operation
invariant-loop-operation g l = (k : ℕ) → k < l.operation-index → Fits (g.G.GateRegister.model.size (g.G.GateRegister.state l.register)) g.G.GateRegister.model.takes (operation_at l.operations k)
