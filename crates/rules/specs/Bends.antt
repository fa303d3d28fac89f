-- The two delivered rules: one bend, and the bounding rectangle. Assumes nothing.
use Rattle.std.specs.Prelude.{ℕ, ◌+◌, ◌-◌, ◌<◌, min, max, Bool, true, cond, ◌&&◌, List, map, ◌==◌, nat_eq, nat_le, nat_lt}
use Rattle.std.specs.List.{range_with_len}
use Rattle.orders.specs.Lists.{any}
use Rattle.grid.specs.Grids.{Grid, cells, number, column, row, place}
use Rattle.route.specs.Routes.{Route}

-- the place is one of the grid's
abbrev pub Inside : Grid → ℕ × ℕ → Type 0
Inside g p = (p.0 < g.columns) × (p.1 < g.rows)

-- how far apart two numbers are
abbrev pub dist : ℕ → ℕ → ℕ
dist a b = (a - b) + (b - a)

-- k steps from a towards b, and no further
abbrev pub toward : ℕ → ℕ → ℕ → ℕ
toward a b k = (a + min k (b - a)) - min k (a - b)

-- the place k steps from p towards q: along the row first, or along the column
abbrev pub row_place : ℕ × ℕ → ℕ × ℕ → ℕ → ℕ × ℕ
row_place p q k = (toward p.0 q.0 k, toward p.1 q.1 (k - dist p.0 q.0))

abbrev pub column_place : ℕ × ℕ → ℕ × ℕ → ℕ → ℕ × ℕ
column_place p q k = (toward p.0 q.0 (k - dist p.1 q.1), toward p.1 q.1 k)

abbrev pub bent_place : Bool → ℕ × ℕ → ℕ × ℕ → ℕ → ℕ × ℕ
bent_place row_first p q k = cond row_first (row_place p q k) (column_place p q k)

-- how many steps there are between two places
abbrev pub step_count : ℕ × ℕ → ℕ × ℕ → ℕ
step_count p q = dist p.0 q.0 + dist p.1 q.1

-- the cell at a place
abbrev pub cell_at : Grid → ℕ × ℕ → ℕ
cell_at g p = number g p.0 p.1

-- the cells of the way from p to q
abbrev pub way : Bool → Grid → ℕ × ℕ → ℕ × ℕ → List ℕ
way row_first g p q = map (λ k. cell_at g (bent_place row_first p q k)) (range_with_len 0 (step_count p q + 1))

-- the path from a to z
abbrev pub bent_path : Bool → Grid → ℕ → ℕ → List ℕ
bent_path row_first g a z = map (λ k. cell_at g (bent_place row_first (place g a) (place g z) k)) (range_with_len 0 (step_count (place g a) (place g z) + 1))

-- v is between a and b, in either order
abbrev pub amid : ℕ → ℕ → ℕ → Bool
amid a b v = nat_le (min a b) v && nat_le v (max a b)

-- the cell is in the bounding rectangle of a and z
abbrev pub in_rectangle : Grid → ℕ → ℕ → ℕ → Bool
in_rectangle g a z c = nat_lt c (cells g) && (amid (column g a) (column g z) (column g c) && amid (row g a) (row g z) (row g c))

-- the one-bend rule: choice 0 goes along the row first, any other along the column; the path is reserved
abbrev pub one_bend : Route
one_bend = record { choices = 2; path = λ g a z c. bent_path (c == 0) g a z; reserved = λ g a z c x. any (nat_eq x) (bent_path (c == 0) g a z) }

-- the rectangle rule: along the row first; the bounding rectangle is reserved
abbrev pub rectangle : Route
rectangle = record { choices = 1; path = λ g a z c. bent_path true g a z; reserved = λ g a z c. in_rectangle g a z }
