use Rattle.std.proofs.Common.{◌<◌, false, ◌&&◌, ◌||◌, eqb, ap, ◌∙◌, rules}
use mathlib.Core.Path.{fun_ext}
use mathlib.Core.Bool.{or-false}
use Rattle.std.proofs.lemmas.Bool.{lt-ltb}
use Rattle.grid.specs.CellSets.{only_cell}
use Rattle.spans.proofs.layout.Layout.only_home.Goals as goal

pub returns : goal.returns
returns c =
    let cell = c.cell_of.result in
    let low : cell < 64 = search rules in
    c.of_cells.ensures ∙ fun_ext (λ x. ap (λ t. (t && eqb x cell) || false) (lt-ltb cell 64 low) ∙ or-false (eqb x cell)) ∙ ap only_cell c.cell_of.ensures
