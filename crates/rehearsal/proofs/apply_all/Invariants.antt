use Rattle.std.proofs.Common.{◌≡◌, ◌+◌, ◌≤◌, length, take}
use Rattle.circuit.specs.Operations.{h_count}
use Rattle.register.specs.Models.{after}
use Rattle.rehearsal.proofs.apply_all.Given as goal

abbrev pub invariant-loop-operation : goal.invariant-loop-operation
invariant-loop-operation g l =
    let m = g.G.GateRegister.model in
    let state = g.G.GateRegister.state in
    let done = g.G.GateRegister.done in
    record {
      within : l.operation-index ≤ length l.operations;
      acted : state l.register ≡ after m (take l.operation-index l.operations) (state l.initial.register);
      sized : m.size (state l.register) ≡ m.size (state l.initial.register);
      counted : done l.register ≡ done l.initial.register + h_count (take l.operation-index l.operations);
    }
