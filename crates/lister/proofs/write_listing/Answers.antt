use Rattle.std.proofs.Common.{length}
use Rattle.spans.specs.Layouts.{layout_plan}
use Rattle.lister.proofs.Listed.{listed_well}
use Rattle.lister.proofs.write_listing.Goals as goal

pub returns-clause-well : goal.returns-clause-well
returns-clause-well g c =
    let rule = c.args.rule.now in
    let was = c.args.places.now in
    let e = c.write_in_order.ensures in
    listed_well (layout_plan c.args.layout.now c.args.gates.now) (g.R.RouteRule.route rule) (length was) c.write_in_order.result was c.write_in_order.new.places (g.met.R.RouteRule.lawful rule) e.answer e.written
