use Rattle.std.proofs.Common.{◌≡◌, ◌∙◌, ap₂}
use Rattle.plan.specs.Plans.{plan_of}
use Rattle.plan.specs.Verdicts.{judged}
use Rattle.book.proofs.Merely.{kept_merely}
use Rattle.job.specs.Jobs.{closed_book}
use Rattle.job.proofs.Verdicts.{judged_kept, fair_kept}
use Rattle.job.proofs.closed_job.ClosedJob.judge.Given.{Over}
use Rattle.job.proofs.closed_job.ClosedJob.judge.Goals as goal
use Rattle.job.proofs.closed_job.ClosedJob.judge.Goals.{After-verdict}

of_plan : (g : Over) (c : After-verdict g) → c.verdict.result ≡ judged (closed_book c.args.self.now).plan (g.R.RouteRule.route c.args.rule.now)
of_plan g c =
    c.verdict.ensures
    ∙ ap₂ (λ hs gs. judged (plan_of c.args.self.now.store.table hs gs) (g.R.RouteRule.route c.args.rule.now)) c.deref.ensures.value c.deref-2.ensures.value

pub returns-clause-answer : goal.returns-clause-answer
returns-clause-answer g c = judged_kept (closed_book c.args.self.now).plan (g.R.RouteRule.route c.args.rule.now) (kept_merely c.args.self.now.lived) c.verdict.result (of_plan g c)

pub returns-clause-fair : goal.returns-clause-fair
returns-clause-fair g c = fair_kept (closed_book c.args.self.now).plan (g.R.RouteRule.route c.args.rule.now) (kept_merely c.args.self.now.lived) c.verdict.result (of_plan g c)
