use Rattle.std.proofs.Common.{◌∙◌, ap₂}
use Rattle.plan.specs.Plans.{plan_of}
use Rattle.trial.specs.Trials.{judged_with}
use Rattle.book.proofs.Merely.{kept_merely}
use Rattle.job.specs.Jobs.{closed_book}
use Rattle.job.proofs.Verdicts.{tried_kept}
use Rattle.job.proofs.closed_job.ClosedJob.try_timing.Goals as goal

pub returns-clause-answer : goal.returns-clause-answer
returns-clause-answer g c =
    let R = g.R.RouteRule.route c.args.rule.now in
    tried_kept (closed_book c.args.self.now).plan R (kept_merely c.args.self.now.lived)
    c.args.gate c.args.start c.args.choice c.in_ok-timing.timing c.verdict_with.result c.in_ok-timing.ensures
    (c.verdict_with.ensures.answer
    ∙ ap₂ (λ hs gs. judged_with (plan_of c.args.self.now.store.table hs gs) R c.args.gate c.in_ok-timing.timing) c.deref.ensures.value c.deref_mut.ensures.value)
