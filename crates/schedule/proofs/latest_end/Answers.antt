use Rattle.std.proofs.Common.{rules, sym, ap, ◌∙◌}
use Rattle.std.specs.Option.{unwrap_or}
use Rattle.std.proofs.lemmas.Iterator.{YieldsList-from_slice, YieldsList-from_map}
use Rattle.std.proofs.lemmas.Iterator.Adapters.{option_map_id}
use Rattle.std.proofs.lemmas.Iterator.Consumers.{max_from_yields_List}
use Rattle.search.proofs.Searches.{highest_max}
use Rattle.spans.specs.declared.span.Span.{Span}
use Rattle.schedule.specs.Schedules.{no_span}
use Rattle.schedule.proofs.latest_end.Goals as goal

pub returns : goal.returns
returns c =
    let ss = c.args.spans.now in
    let f = λ (s : Span). s.end in
    c.unwrap_or.ensures
    ∙ ap (λ o. unwrap_or o 0) (sym (option_map_id _) ∙ max_from_yields_List _ _ c.max.ensures.ran (YieldsList-from_map _ f (YieldsList-from_slice ss cc) c.map.ensures.closure (λ s r q k. search rules)))
    ∙ highest_max f ss no_span
