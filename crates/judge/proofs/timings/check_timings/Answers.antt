use Rattle.std.proofs.Common.{◌≡◌, rules, tests, sym, ap, ◌∙◌}
use Rattle.std.specs.Prelude.{is_none}
use Rattle.std.specs.Option.{option_map}
use Rattle.std.proofs.lemmas.Iterator.{YieldsList-from_slice}
use Rattle.std.proofs.lemmas.Iterator.Search.{position_from_yields_List}
use Rattle.refusal.specs.declared.Refusal.{Refusal}
use Rattle.refusal.specs.Refusals.{ok_unless}
use Rattle.plan.specs.declared.gate.Gate.{Gate}
use Rattle.judge.specs.Judging.{untimed}
use Rattle.judge.proofs.Firsts.{untimed_first}
use Rattle.judge.proofs.timings.check_timings.Goals as goal
use Rattle.judge.proofs.timings.check_timings.Goals.{After-position}

found : (c : After-position) → option_map Refusal.NoTiming c.position.result ≡ untimed c.args.gates.now
found c =
    let gs = c.args.gates.now in
    let test = λ (g : Gate). is_none g.timing in
    ap (option_map Refusal.NoTiming) (position_from_yields_List test _ _ _ c.position.ensures.ran (YieldsList-from_slice gs cc) (λ g b q k. search (rules, tests)))
    ∙ untimed_first gs

pub returns-in-Some : goal.returns-in-Some
returns-in-Some c = ap (λ o. ok_unless o tt) (ap (option_map Refusal.NoTiming) (sym c.in-Some.is) ∙ found (goal.at-returns-in-Some c).After-position)

pub returns-in-None : goal.returns-in-None
returns-in-None c = ap (λ o. ok_unless o tt) (ap (option_map Refusal.NoTiming) (sym c.in-None.is) ∙ found (goal.at-returns-in-None c).After-position)
