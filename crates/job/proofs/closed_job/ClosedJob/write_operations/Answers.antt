use Rattle.std.proofs.Common.{length}
use Rattle.spans.specs.Layouts.{layout_plan}
use Rattle.job.proofs.Listings.{listing_answers}
use Rattle.job.proofs.closed_job.ClosedJob.write_operations.Goals as goal

pub returns-clause-answer : goal.returns-clause-answer
returns-clause-answer g c =
    let s = c.args.self.now in
    let q = c.parts.result in
    listing_answers s.store (layout_plan q.0 q.1.now) (g.R.RouteRule.route c.args.rule.now) (length c.args.places.now) c.write_listing.result s.lived c.parts.ensures c.write_listing.ensures.answer
