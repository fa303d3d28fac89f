-- Neighbours as a test, and which of two neighbours has the lower number. Assumes nothing.
use Rattle.std.proofs.Common.{◌≡◌, ℕ, ◌+◌, ◌≤◌, true, eqb, div-add-mod', arith}
use Rattle.std.proofs.lemmas.Bool.Decides.{nat_tests}
use Rattle.grid.specs.Grids.{Grid, column, row, Neighbours, are_neighbours}

pub neighbours_test : (g : Grid) (a b : ℕ) → Neighbours g a b → are_neighbours g a b ≡ true
neighbours_test g a b n = grind (arith, nat_tests)

-- neighbours are so both ways
pub neighbours-turned : (g : Grid) (a b : ℕ) → are_neighbours g a b ≡ are_neighbours g b a
neighbours-turned g a b = grind (arith, nat_tests)

pub row-turned : (g : Grid) (a b : ℕ) → eqb (row g a) (row g b) ≡ eqb (row g b) (row g a)
row-turned g a b = grind (arith, nat_tests)

pub row_before : (g : Grid) (a b : ℕ) → row g a ≡ row g b → column g a + 1 ≡ column g b → a ≤ b
row_before g a b e f = grind (arith, div-add-mod' a g.columns, div-add-mod' b g.columns)

pub column-before : (g : Grid) (a b : ℕ) → column g a ≡ column g b → row g a + 1 ≡ row g b → a ≤ b
column-before g a b e f = grind (arith, div-add-mod' a g.columns, div-add-mod' b g.columns)
