use Rattle.std.proofs.Common.{◌≡◌, ◌+◌, take}
use Rattle.grid.specs.CellSets.{listed_cells}
use Rattle.grid.specs.Members.{has}
use Rattle.rules.specs.Ways.{cell_of, way_of}
use Rattle.rules.proofs.bend.Bend.cell_set.Given as goal

abbrev pub invariant-loop-k : goal.invariant-loop-k
invariant-loop-k l = (l.cell ≡ cell_of l.self l.k) × (has l.set ≡ listed_cells (take (l.k + 1) (way_of l.self)))
