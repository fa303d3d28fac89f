use Rattle.std.proofs.Common.{rules, sym, ap, ◌∙◌}
use Rattle.std.specs.Option.{unwrap_or}
use Rattle.std.proofs.lemmas.Iterator.{YieldsList-from_slice, YieldsList-from_map}
use Rattle.std.proofs.lemmas.Iterator.Adapters.{option_map_id}
use Rattle.std.proofs.lemmas.Iterator.Consumers.{max_from_yields_List}
use Rattle.search.proofs.Searches.{highest_max}
use Rattle.plan.specs.declared.gate.Gate.{Gate}
use Rattle.plan.specs.Plans.{no_gate}
use Rattle.plan.specs.Verdicts.{past_labels}
use Rattle.placement.proofs.missing.bound_of_labels.Goals as goal

pub returns : goal.returns
returns c =
    let gs = c.args.gates.now in
    let f = λ (g : Gate). past_labels g.action in
    c.unwrap_or.ensures
    ∙ ap (λ o. unwrap_or o 0) (sym (option_map_id _) ∙ max_from_yields_List _ _ c.max.ensures.ran (YieldsList-from_map _ f (YieldsList-from_slice gs cc) c.map.ensures.closure (λ g r q k. search rules)))
    ∙ highest_max f gs no_gate
