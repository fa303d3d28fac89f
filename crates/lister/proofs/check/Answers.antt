use Rattle.std.proofs.Common.{ltb, length, Err, sym, ap, ◌∙◌}
use Rattle.std.proofs.lemmas.Result.{err_from_is_err_and}
use Rattle.refusal.specs.declared.Refusal.{Refusal}
use Rattle.refusal.specs.Refusals.{refuse_if, or_else}
use Rattle.refusal.proofs.Accepted.{refused_first}
use Rattle.grid.proofs.Fits.{machine_fit}
use Rattle.plan.specs.Plans.{gate_count}
use Rattle.plan.specs.Listings.{listing}
use Rattle.plan.specs.Verdicts.{first_broken, latest_end}
use Rattle.spans.specs.Layouts.{layout_plan}
use Rattle.lister.proofs.Listed.{if_ok, judged_early}
use Rattle.lister.proofs.check.Goals as goal

pub returns-in_err-judge-clause-answer : goal.returns-in_err-judge-clause-answer
returns-in_err-judge-clause-answer g c =
    let p = layout_plan c.args.layout.now c.args.gates.now in
    let R = g.R.RouteRule.route c.args.rule.now in
    let v = err_from_is_err_and c.from_residual.result c.from_residual.ensures.1 in
    v.1 ∙ ap Err v.2
    ∙ refused_first (or_else (refuse_if (ltb 256 (gate_count p)) Refusal.ProgramFull) (first_broken p R)) (refuse_if (ltb c.args.places (length (listing p R))) Refusal.TooFewPlaces)
    (latest_end p R) (length (listing p R)) c.in_err-judge.field-0.0 (sym c.in_err-judge.was ∙ c.judge.ensures.answer)

pub returns-clause-early : goal.returns-clause-early
returns-clause-early g c =
    let t = c.args.layout.now.table.now in
    if_ok c.check_places.result _ (judged_early (layout_plan c.args.layout.now c.args.gates.now) (g.R.RouteRule.route c.args.rule.now) c.in_ok-judge.field-0 (machine_fit t.machine) t.ranged (sym c.in_ok-judge.was ∙ c.judge.ensures.answer))
