use Rattle.std.proofs.Common.{None}
use Rattle.register.specs.Runs.{capacity}
use Rattle.job.proofs.Runs.{run_answers}
use Rattle.job.proofs.closed_job.ClosedJob.run.Goals as goal

pub returns-clause-answer : goal.returns-clause-answer
returns-clause-answer g c =
    let s = c.args.self.now in
    let register = c.args.register.now in
    let q = c.parts.result in
    let h = c.homes_on_machine in
    run_answers s.store q.0 h.result q.1.now (capacity g.G.GateRegister.model g.G.GateRegister.most (g.G.GateRegister.state register) (g.G.GateRegister.done register) None)
    c.run_direct.result s.lived c.parts.ensures h.ensures.machine h.ensures.cells c.run_direct.ensures.answer
