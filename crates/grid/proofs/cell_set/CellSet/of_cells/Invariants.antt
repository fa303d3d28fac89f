use Rattle.std.proofs.Common.{◌≡◌, take}
use Rattle.grid.specs.CellSets.{listed_cells}
use Rattle.grid.specs.Members.{has}
use Rattle.grid.proofs.cell_set.CellSet.of_cells.Given as goal

abbrev pub invariant-loop-cell : goal.invariant-loop-cell
invariant-loop-cell l = has l.set ≡ listed_cells (take l.cell-index l.cells)
