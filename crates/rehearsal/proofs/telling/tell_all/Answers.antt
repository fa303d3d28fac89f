use Rattle.std.proofs.Common.{◌≡◌, ◌+◌, ◌<◌, length, take, get_or, Some, sym, ap, ◌∙◌, arith}
use Rattle.circuit.specs.Actions.{is_h, is_read}
use Rattle.circuit.specs.Operations.{one_if}
use Rattle.register.specs.Models.{after}
use Rattle.register.specs.Runs.{no_operation}
use Rattle.rehearsal.specs.Rehearsals.{reading_told, noted}
use Rattle.rehearsal.proofs.Steps.{after_more, few_at, size_next, h_next, numbers_next, room_at, count_next, places_next, ok_same}
use Rattle.rehearsal.proofs.telling.tell_all.Goals as goal

pub tell_one-requires-clause-few : goal.tell_one-requires-clause-few
tell_one-requires-clause-few g c =
    let T = g.T.GateRegister in
    let x = c.args.register.now in
    few_at T.model T.most (T.state x) (T.done x) (Some (length c.args.places.now)) c.args.operations.now c.requires c.loop-operation.operation-index no_operation c.loop-operation-test.true (T.done c.loop-operation.register) c.loop-operation.invariant.counted

pub tell_one-requires-clause-room : goal.tell_one-requires-clause-room
tell_one-requires-clause-room g c read =
    let T = g.T.GateRegister in
    let N = g.T.TellingRegister in
    let x = c.args.register.now in
    let was = c.args.places.now in
    let long = c.loop-operation.auto.places in
    let room : c.loop-operation.told < length was =
    room_at T.model T.state N.mark N.numbers was T.most (T.done x) x c.args.operations.now c.requires c.loop-operation.operation-index no_operation c.loop-operation-test.true c.loop-operation.told c.loop-operation.invariant.many read
    in omega arith

pub loop-operation-preserved : goal.loop-operation-preserved
loop-operation-preserved g c =
    let T = g.T.GateRegister in
    let N = g.T.TellingRegister in
    let x = c.args.register.now in
    let y = c.loop-operation.register in
    let z = c.tell_one.new.register in
    let was = c.args.places.now in
    let places = Some (length was) in
    let os = c.args.operations.now in
    let i = c.loop-operation.operation-index in
    let h = c.loop-operation-test.true in
    let o = get_or os i no_operation in
    let k = c.loop-operation.told in
    let v = c.loop-operation.invariant in
    let acted : T.state z ≡ T.model.act o.action (T.state y) = c.tell_one.ensures.acted in
    let sized : T.model.size (T.state z) ≡ T.model.size (T.model.act o.action (T.state y)) = ap T.model.size acted in
    let before : T.model.act o.action (T.state y) ≡ T.model.act o.action (after T.model (take i os) (T.state x)) = ap (T.model.act o.action) v.acted in
    let counted : T.done z ≡ T.done y + one_if (is_h o.action) = c.tell_one.ensures.counted in
    let many : c.in_ok-told.told ≡ k + one_if (is_read o.action) = ok_same c.tell_one.result _ _ c.in_ok-told.was c.tell_one.ensures.answer in
    let written : c.tell_one.new.places ≡ noted (reading_told (N.numbers y) o) c.loop-operation.places k = c.tell_one.ensures.written in
    record {
      within = omega arith;
      acted = acted ∙ before ∙ sym (after_more T.model os i no_operation (T.state x) h);
      sized = sized ∙ size_next T.model T.most (T.state x) (T.done x) places os c.requires i no_operation h (T.state y) v.sized;
      counted = counted ∙ h_next T.model T.most (T.state x) (T.done x) places os c.requires i no_operation h (T.done y) v.counted;
      numbered = numbers_next T.model T.state N.mark N.numbers was T.most (T.done x) x os c.requires i no_operation h c.flip_mark-mark.ensures.laws y z v.sized acted v.numbered;
      many = many ∙ count_next T.model T.state N.mark N.numbers was T.most (T.done x) x os c.requires i no_operation h k v.many;
      written = written ∙ places_next T.model T.state N.mark N.numbers was T.most (T.done x) x os c.requires i no_operation h y c.loop-operation.places k v.many v.numbered v.written;
    }
