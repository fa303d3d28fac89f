use Rattle.std.proofs.Common.{◌≡◌, ◌+◌, map}
use Rattle.std.specs.List.{range_with_len}
use Rattle.route.specs.Paths.{path_cells}
use Rattle.rules.specs.Ways.{cell_of}
use Rattle.rules.proofs.bend.Bend.path.Given as goal

abbrev pub invariant-loop-k : goal.invariant-loop-k
invariant-loop-k l = (l.cell ≡ cell_of l.self l.k) × (path_cells l.path ≡ map (cell_of l.self) (range_with_len 0 (l.k + 1)))
