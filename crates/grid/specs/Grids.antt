-- The cells of a grid, by number and by place, and which of them are neighbours. Assumes nothing.
use Rattle.std.specs.Prelude.{◌≡◌, ℕ, ◌+◌, ◌*◌, ◌/◌, ◌%◌, ◌<◌, ◌≤◌, Bool, cond, ◌&&◌, ◌||◌, ◌⊎◌, Ok, Err, Result, ◌==◌, nat_le, nat_lt}
use Rattle.refusal.specs.declared.Refusal.{Refusal}
use Rattle.grid.specs.declared.machine.Machine.{Machine}

-- the size of a machine
pub record Grid : Type 0 where
  pub columns : ℕ
  pub rows : ℕ

-- w columns and h rows
abbrev pub grid : ℕ → ℕ → Grid
grid w h = record { columns = w; rows = h }

-- the size of a machine in code
abbrev pub grid_of : Machine → Grid
grid_of m = grid m.columns m.rows

abbrev pub grid_as : Result Machine Refusal → Result Grid Refusal
grid_as (Ok m) = Ok (grid_of m)
grid_as (Err r) = Err r

-- the value is from low to high
abbrev pub between : ℕ → ℕ → ℕ → Bool
between low high v = nat_le low v && nat_le v high

-- 1 to 8 columns and 1 to 8 rows, or the refusal
abbrev pub sized : ℕ → ℕ → Result Grid Refusal
sized w h = cond (between 1 8 w && between 1 8 h) (Ok (grid w h)) (Err Refusal.MachineSize)

-- the same as a fact
pub record GridFit (g : Grid) : Type 0 where
  pub some_columns : 1 ≤ g.columns
  pub few_columns : g.columns ≤ 8
  pub some_rows : 1 ≤ g.rows
  pub few_rows : g.rows ≤ 8

module _ (g : Grid) where
  -- how many cells there are
  abbrev pub cells : ℕ
  cells = g.rows * g.columns

  -- the cell at column x and row y
  abbrev pub number : ℕ → ℕ → ℕ
  number x y = y * g.columns + x

  -- the column and the row of a cell
  abbrev pub column : ℕ → ℕ
  column c = c % g.columns

  abbrev pub row : ℕ → ℕ
  row c = c / g.columns

  -- both together
  abbrev pub place : ℕ → ℕ × ℕ
  place c = (column c, row c)

-- the numbers differ by 1
abbrev pub NextTo : ℕ → ℕ → Type 0
NextTo m n = (m + 1 ≡ n) ⊎ (n + 1 ≡ m)

-- the places differ by 1 in one coordinate and agree in the other
abbrev pub Beside : ℕ × ℕ → ℕ × ℕ → Type 0
Beside p q = ((p.1 ≡ q.1) × NextTo p.0 q.0) ⊎ ((p.0 ≡ q.0) × NextTo p.1 q.1)

-- two cells of the grid whose places are beside one another
abbrev pub Neighbours : Grid → ℕ → ℕ → Type 0
Neighbours g c d = (c < cells g) × (d < cells g) × Beside (place g c) (place g d)

-- the same as tests
abbrev pub next_to : ℕ → ℕ → Bool
next_to m n = m + 1 == n || n + 1 == m

abbrev pub beside : ℕ × ℕ → ℕ × ℕ → Bool
beside p q = (p.1 == q.1 && next_to p.0 q.0) || (p.0 == q.0 && next_to p.1 q.1)

abbrev pub are_neighbours : Grid → ℕ → ℕ → Bool
are_neighbours g c d = nat_lt c (cells g) && (nat_lt d (cells g) && beside (place g c) (place g d))
