use Rattle.std.proofs.Common.{◌≡◌, not, rules, tests, sym, ap, ◌∙◌}
use Rattle.std.specs.Option.{option_map}
use Rattle.std.proofs.lemmas.Iterator.{YieldsList-from_slice}
use Rattle.std.proofs.lemmas.Iterator.Search.{position_from_yields_List}
use Rattle.refusal.specs.declared.Refusal.{Refusal}
use Rattle.refusal.specs.Refusals.{ok_unless}
use Rattle.plan.specs.declared.gate.Gate.{Gate}
use Rattle.plan.specs.Plans.{choice_or}
use Rattle.plan.specs.Verdicts.{is_offered}
use Rattle.judge.specs.Judging.{unoffered}
use Rattle.judge.proofs.Firsts.{unoffered_first}
use Rattle.judge.proofs.choices.check_choices.Given.{Over}
use Rattle.judge.proofs.choices.check_choices.Goals as goal
use Rattle.judge.proofs.choices.check_choices.Goals.{After-position}

found : (g : Over) (c : After-position g) → option_map Refusal.ChoiceNotOffered c.position.result ≡ unoffered (g.R.RouteRule.route c.args.rule.now).choices c.args.gates.now
found g c =
    let gs = c.args.gates.now in
    let test = λ (x : Gate). not (is_offered c.choices-choices.result x.action (choice_or x.timing)) in
    ap (option_map Refusal.ChoiceNotOffered) (position_from_yields_List test _ _ _ c.position.ensures.ran (YieldsList-from_slice gs cc) (λ x b q k. search (rules, tests)))
    ∙ unoffered_first c.choices-choices.result gs
    ∙ ap (λ n. unoffered n gs) c.choices-choices.ensures

pub returns-in-Some : goal.returns-in-Some
returns-in-Some g c = ap (λ o. ok_unless o tt) (ap (option_map Refusal.ChoiceNotOffered) (sym c.in-Some.is) ∙ found g (goal.at-returns-in-Some g c).After-position)

pub returns-in-None : goal.returns-in-None
returns-in-None g c = ap (λ o. ok_unless o tt) (ap (option_map Refusal.ChoiceNotOffered) (sym c.in-None.is) ∙ found g (goal.at-returns-in-None g c).After-position)
