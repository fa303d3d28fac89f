-- Sets of cells below 64. Assumes nothing.
use Rattle.std.specs.Prelude.{◌≡◌, ℕ, Bool, true, false, ◌&&◌, ◌||◌, List, ◌==◌, nat_lt}
use Rattle.orders.specs.Lists.{any}

-- no cell is in it
abbrev pub no_cells : ℕ → Bool
no_cells c = false

-- the cell alone is in it
abbrev pub only_cell : ℕ → ℕ → Bool
only_cell cell c = c == cell

-- the set with one cell more, where that is below 64
abbrev pub with_cell : ℕ → (ℕ → Bool) → ℕ → Bool
with_cell cell set c = (nat_lt cell 64 && c == cell) || set c

-- the cells below 64 of a list
abbrev pub listed_cells : List ℕ → ℕ → Bool
listed_cells cs c = any (λ d. nat_lt d 64 && c == d) cs

-- some cell is in both
abbrev pub CommonCell : (ℕ → Bool) → (ℕ → Bool) → Type 0
CommonCell set other = (c : ℕ) × (set c ≡ true) × (other c ≡ true)
