-- The two ends of a route. Assumes nothing.
use Rattle.std.specs.Prelude.{ℕ, cond, not, ◌&&◌, Some, None, Option, ◌==◌, nat_lt}
use Rattle.grid.specs.Grids.{Grid, grid_of, cells}
use Rattle.route.specs.declared.endpoints.Endpoints.{Endpoints}

-- a grid and two of its cells
pub record Ends : Type 0 where
  pub grid : Grid
  pub from : ℕ
  pub to : ℕ

-- those of the code
abbrev pub ends_of : Endpoints → Ends
ends_of e = record { grid = grid_of e.machine; from = e.from; to = e.to }

-- two different cells of the grid, or none
abbrev pub apart_cells : Grid → ℕ → ℕ → Option Ends
apart_cells g a z = cond (nat_lt a (cells g) && (nat_lt z (cells g) && not (a == z))) (Some (record { grid = g; from = a; to = z })) None
