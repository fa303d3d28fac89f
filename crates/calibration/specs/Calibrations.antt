-- The calibration of cells: ranges, the values at first, and the times of links. Assumes nothing.
use Rattle.std.specs.Prelude.{◌≡◌, ℕ, ◌+◌, ◌<◌, min, Bool, true, cond, not, ◌&&◌, List, map, Option, ◌==◌, nat_le, nat_lt, slice_index_or}
use Rattle.std.specs.List.{range_with_len}
use Rattle.refusal.specs.declared.Refusal.{Refusal}
use Rattle.refusal.specs.Refusals.{refuse_if, or_else}
use Rattle.grid.specs.Grids.{Grid, between, cells, column, row, are_neighbours}
use Rattle.calibration.specs.declared.values.Calibration.{Calibration}

module _ (g : Grid) where
  -- the cell has a neighbour to the east, at x + 1
  abbrev pub has_east : ℕ → Bool
  has_east c = nat_lt (column g c + 1) g.columns

  -- the cell has a neighbour to the south, at y + 1
  abbrev pub has_south : ℕ → Bool
  has_south c = nat_lt (row g c + 1) g.rows

-- a link's time is from 1 to 1000, and 0 where there is no neighbour
abbrev pub link_ok : Bool → ℕ → Bool
link_ok there v = cond there (between 1 1000 v) (v == 0)

-- the values may be those of the cell c
abbrev pub calibration_ok : Grid → ℕ → Calibration → Bool
calibration_ok g c v =
    between 1 255 v.single && (between 1 65535 v.read && (between 1 1000000 v.window && (link_ok (has_east g c) v.east && link_ok (has_south g c) v.south)))

-- the values of the cell c at first
abbrev pub first_values : Grid → ℕ → Calibration
first_values g c = record { single = 1; read = 1; window = 1000000; east = cond (has_east g c) 1 0; south = cond (has_south g c) 1 0 }

-- the values of all cells at first
abbrev pub first_calibration : Grid → List Calibration
first_calibration g = map (first_values g) (range_with_len 0 (cells g))

-- the values where there is no cell
abbrev pub no_values : Calibration
no_values = record { single = 0; read = 0; window = 0; east = 0; south = 0 }

-- the values of the cell c
abbrev pub values_at : List Calibration → ℕ → Calibration
values_at vs c = slice_index_or vs c no_values

-- every cell's values are in range
abbrev pub InRange : Grid → List Calibration → Type 0
InRange g vs = (c : ℕ) → c < cells g → calibration_ok g c (values_at vs c) ≡ true

-- why other values for the cell c are refused: no such cell, or a value out of range
abbrev pub calibrating_refusal : Grid → ℕ → Calibration → Option Refusal
calibrating_refusal g c v = or_else (refuse_if (nat_le (cells g) c) (Refusal.NoSuchCell c)) (refuse_if (not (calibration_ok g c v)) (Refusal.ValueOutOfRange c))

-- the time of the link from a cell with these values to the one whose number is d more, on n columns: to the next by the east link, where there is one, and to the one below by the south link
abbrev pub time_over_gap : ℕ → Calibration → ℕ → ℕ
time_over_gap n v d = cond (d == 1 && nat_lt 0 v.east) v.east (cond (d == n) v.south 0)

-- the time of the link between two neighbours: in one row that of the lower cell's east link, else that of its south link; 0 where the cells are no neighbours
abbrev pub link_time : Grid → List Calibration → ℕ → ℕ → ℕ
link_time g vs c d = cond (are_neighbours g c d) (cond (row g c == row g d) (values_at vs (min c d)).east (values_at vs (min c d)).south) 0
