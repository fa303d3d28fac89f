use Rattle.std.proofs.Common.{◌<◌, ap, ◌∙◌, arith}
use mathlib.Core.Path.{fun_ext}
use Rattle.std.proofs.ByRecursion.{All-from_get_or}
use Rattle.grid.specs.Grids.{grid_of}
use Rattle.grid.specs.CellSets.{listed_cells}
use Rattle.grid.proofs.Fits.{machine_fit, few-cells}
use Rattle.grid.proofs.Listed.{listed_all}
use Rattle.rules.specs.Bends.{bent_path}
use Rattle.rules.specs.BendsLemmas.{bent_below}
use Rattle.rules.proofs.one_bend.path_cell_set.Goals as goal

pub returns : goal.returns
returns c =
    let e = c.args.ends in
    let g = grid_of e.machine in
    let fit = machine_fit e.machine in
    let row_first = c.args.row_first in
    let path = bent_path row_first g e.from e.to in
    let low = All-from_get_or (λ d. d < 64) path 0 (λ k l. omega (arith, bent_below g fit row_first e.from e.to e.within.0 e.within.1 k l, few-cells g fit)) in
    c.cell_set.ensures ∙ ap listed_cells (c.new.ensures ∙ ap (λ b. bent_path b g e.from e.to) c.leg.ensures) ∙ fun_ext (λ x. listed_all path x low)
