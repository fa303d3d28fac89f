use Rattle.std.proofs.Common.{Some, get_or, set, ap, ◌∙◌}
use Rattle.plan.specs.Plans.{retimed_at, no_gate}
use Rattle.plan.specs.Verdicts.{judged}
use Rattle.spans.specs.Layouts.{layout_plan}
use Rattle.trial.proofs.Back.{timing_back}
use Rattle.trial.proofs.verdict_with.Goals as goal

pub returns-clause-answer : goal.returns-clause-answer
returns-clause-answer g c =
    c.verdict.ensures
    ∙ ap (λ x. judged (layout_plan c.args.layout.now (set c.args.gates.now c.args.gate x)) (g.R.RouteRule.route c.args.rule.now)) c.retime.ensures

pub returns-clause-kept : goal.returns-clause-kept
returns-clause-kept g c =
    c.drop-trial.ensures
    ∙ (ap (λ x. retimed_at (set c.args.gates.now c.args.gate x) c.args.gate (get_or c.args.gates.now c.args.gate no_gate).timing) c.retime.ensures
    ∙ timing_back c.args.gates.now c.args.gate (Some c.args.timing) c.requires)
