use Rattle.std.proofs.Common.{sym, ◌∙◌, subst}
use Rattle.spans.specs.Layouts.{layout_plan}
use Rattle.plan.specs.Verdicts.{Fair}
use Rattle.plan.proofs.Verdicts.{fair}
use Rattle.judge.proofs.Parts.{parts_same, judged-few}
use Rattle.judge.proofs.judge.Goals as goal

pub returns : goal.returns
returns g c =
    let p = layout_plan c.args.layout.now c.args.gates.now in
    let R = g.R.RouteRule.route c.args.rule.now in
    let same = c.verdict_on.ensures ∙ parts_same p R in
    record { answer = same; fair = λ h. subst (Fair p R) (sym (same ∙ judged-few p R h)) (fair p R) }
