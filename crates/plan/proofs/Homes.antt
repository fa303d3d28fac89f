-- Homes are cells of the grid. Assumes nothing.
use Rattle.std.proofs.Common.{ℕ, ◌<◌, List, Option, unwrap_or, rules}
use Rattle.grid.specs.Grids.{Grid, GridFit, cells}
use Rattle.plan.specs.Plans.{home_among}

-- a fit grid has a cell
pub some_cell : (g : Grid) → GridFit g → 0 < cells g
some_cell g f = search rules

-- a label's home, or 0, is a cell
pub home_below : (g : Grid) (hs : List (Option ℕ)) (l : ℕ) → GridFit g → unwrap_or (home_among g hs l) 0 < cells g
home_below g hs l f = let z = some_cell g f in search rules
