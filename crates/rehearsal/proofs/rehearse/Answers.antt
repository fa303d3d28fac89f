use Rattle.std.proofs.Common.{None}
use Rattle.rehearsal.proofs.Whole.{ran_directly}
use Rattle.rehearsal.proofs.rehearse.Goals as goal

pub returns-clause-directly : goal.returns-clause-directly
returns-clause-directly g c =
    let G = g.G.GateRegister in
    let x = c.args.register.now in
    let y = c.apply_checked.new.register in
    let e = c.apply_checked.ensures in
    ran_directly G.model G.most (G.state x) (G.done x) None c.args.operations.now c.apply_checked.result (G.state y) (G.done y) e.answer e.acted e.counted
