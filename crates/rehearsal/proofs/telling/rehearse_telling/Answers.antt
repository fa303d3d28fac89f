use Rattle.std.proofs.Common.{length, Some}
use Rattle.promise.proofs.Whole.{listings_stand}
use Rattle.rehearsal.proofs.Whole.{ran_directly, told_directly}
use Rattle.rehearsal.proofs.telling.rehearse_telling.Goals as goal

pub returns-clause-directly : goal.returns-clause-directly
returns-clause-directly g c =
    let T = g.T.GateRegister in
    let x = c.args.register.now in
    let y = c.tell_checked.new.register in
    let e = c.tell_checked.ensures in
    ran_directly T.model T.most (T.state x) (T.done x) (Some (length c.args.places.now)) c.args.operations.now c.tell_checked.result (T.state y) (T.done y) e.answer e.acted e.counted

pub returns-clause-told_directly : goal.returns-clause-told_directly
returns-clause-told_directly g c =
    let T = g.T.GateRegister in
    let N = g.T.TellingRegister in
    let x = c.args.register.now in
    let e = c.tell_checked.ensures in
    told_directly T.model T.most (T.state x) (T.done x) N.mark (N.numbers x) c.args.operations.now c.tell_checked.result c.args.places.now c.tell_checked.new.places e.answer e.written

pub returns-clause-stands : goal.returns-clause-stands
returns-clause-stands g c =
    let T = g.T.GateRegister in
    let N = g.T.TellingRegister in
    listings_stand T.model T.most T.model T.most T.state N.mark N.numbers
