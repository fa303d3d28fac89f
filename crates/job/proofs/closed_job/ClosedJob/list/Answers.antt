use Rattle.promise.proofs.Whole.{listings_stand}
use Rattle.job.proofs.Listings.{list_stands}
use Rattle.job.proofs.closed_job.ClosedJob.list.Goals as goal

pub returns-clause-stands : goal.returns-clause-stands
returns-clause-stands g c =
    let s = c.args.self.now in
    let rule = c.args.rule.now in
    let w = c.write_operations in
    list_stands s.store (g.R.RouteRule.route rule) w.result c.args.places.now w.new.places s.lived (g.met.R.RouteRule.lawful rule) w.ensures.answer w.ensures.written
    g.G.GateRegister.model g.G.GateRegister.most g.T.GateRegister.model g.T.GateRegister.most g.T.GateRegister.state g.T.TellingRegister.mark g.T.TellingRegister.numbers

pub returns-clause-law : goal.returns-clause-law
returns-clause-law g c = listings_stand g.G.GateRegister.model g.G.GateRegister.most g.T.GateRegister.model g.T.GateRegister.most g.T.GateRegister.state g.T.TellingRegister.mark g.T.TellingRegister.numbers
