use Rattle.std.proofs.Common.{rules, tests, refl, sym, ap, ◌∙◌, arith}
use Rattle.std.specs.Option.{option_map}
use Rattle.std.proofs.lemmas.Iterator.{YieldsList-from_range}
use Rattle.std.proofs.lemmas.Iterator.Adapters.{option_map_id}
use Rattle.std.proofs.lemmas.Iterator.Search.{find_from_yields_List}
use Rattle.search.specs.Searches.{first_below}
use Rattle.search.proofs.Searches.{find_range}
use Rattle.refusal.specs.declared.Refusal.{Refusal}
use Rattle.grid.specs.Grids.{grid_of}
use Rattle.placement.specs.Placements.{label_bound, missing_at}
use Rattle.placement.proofs.Firsts.{named_first}
use Rattle.placement.proofs.homes.Homes.lowest_missing.Goals as goal

pub returns : goal.returns
returns c =
    let p = missing_at (grid_of c.args.self.now.machine) c.args.self.now.cells.now c.args.gates.now in
    let n = c.bound_of_labels.result in
    ap (option_map Refusal.NoHome)
    (sym (option_map_id _)
    ∙ find_from_yields_List p _ _ _ c.find.ensures.ran (YieldsList-from_range 0 n n refl (omega arith)) (λ l b q k. search (rules, tests))
    ∙ find_range p n
    ∙ ap (first_below p) c.bound_of_labels.ensures)
    ∙ sym (named_first Refusal.NoHome p (label_bound c.args.gates.now))
