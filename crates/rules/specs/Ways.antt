-- The way of a bend in the code. Assumes nothing.
use Rattle.std.specs.Prelude.{ℕ, Bool, cond, List, nat_le, nat_lt}
use Rattle.grid.specs.Grids.{grid_of}
use Rattle.rules.specs.declared.bend.Bend.{Bend}
use Rattle.rules.specs.Legs.{is_row}
use Rattle.rules.specs.Bends.{dist, bent_place, cell_at, way}

-- the cell after k steps
abbrev pub cell_of : Bend → ℕ → ℕ
cell_of b k = cell_at (grid_of b.machine) (bent_place (is_row b.first) b.from b.to k)

-- its cells in their order
abbrev pub way_of : Bend → List ℕ
way_of b = way (is_row b.first) (grid_of b.machine) b.from b.to

-- the step that follows k steps goes along the row
abbrev pub along_row : Bool → ℕ × ℕ → ℕ × ℕ → ℕ → Bool
along_row row_first p q k = cond row_first (nat_lt k (dist p.0 q.0)) (nat_le (dist p.1 q.1) k)
