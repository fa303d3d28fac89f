use Rattle.std.proofs.Common.{◌≡◌, ℕ, ◌+◌, ◌<◌, ◌≤◌, length, take}
use Rattle.circuit.specs.Operations.{h_count, read_count}
use Rattle.register.specs.Models.{after}
use Rattle.register.specs.Numbers.{tells}
use Rattle.rehearsal.specs.Rehearsals.{numbers_after, told_first}
use Rattle.rehearsal.proofs.telling.tell_all.Given as goal

abbrev pub invariant-loop-operation : goal.invariant-loop-operation
invariant-loop-operation g l =
    let m = g.T.GateRegister.model in
    let state = g.T.GateRegister.state in
    let done = g.T.GateRegister.done in
    let mark = g.T.TellingRegister.mark in
    let numbers = g.T.TellingRegister.numbers in
    let before = take l.operation-index l.operations in
    record {
      within : l.operation-index ≤ length l.operations;
      acted : state l.register ≡ after m before (state l.initial.register);
      sized : m.size (state l.register) ≡ m.size (state l.initial.register);
      counted : done l.register ≡ done l.initial.register + h_count before;
      numbered : (w : ℕ) → w < m.size (state l.initial.register) → numbers l.register w ≡ numbers_after mark before (numbers l.initial.register) w;
      many : l.told ≡ read_count before;
      written : l.places ≡ told_first l.initial.places (tells mark before (numbers l.initial.register));
    }
