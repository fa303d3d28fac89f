-- The times of links: at most 1000, and more than 0 between neighbours. Assumes nothing.
use Rattle.std.proofs.Common.{◌≡◌, ℕ, ◌+◌, ◌<◌, ◌≤◌, min, true, List, sym, inl, inr, mod-lt, div-lt_iff_lt-mul, arith}
use Rattle.std.proofs.lemmas.Bool.{cases_lt}
use Rattle.std.proofs.lemmas.Bool.Decides.{nat_tests}
use Rattle.grid.specs.Grids.{Grid, GridFit, cells, column, row, Neighbours}
use Rattle.grid.proofs.Neighbours.{neighbours_test, row_before, column-before}
use Rattle.calibration.specs.declared.values.Calibration.{Calibration}
use Rattle.calibration.specs.Calibrations.{has_east, has_south, link_ok, calibration_ok, values_at, InRange, link_time}

-- what the ranges say of a cell's link times
pub record LinkRanges (g : Grid) (c : ℕ) (v : Calibration) : Type 0 where
  pub east : link_ok (has_east g c) v.east ≡ true
  pub south : link_ok (has_south g c) v.south ≡ true

pub link_ranges : (g : Grid) (c : ℕ) (v : Calibration) → calibration_ok g c v ≡ true → LinkRanges g c v
link_ranges g c v e = record { east = grind (arith, nat_tests); south = grind (arith, nat_tests) }

links_few : (g : Grid) (c : ℕ) (v : Calibration) → LinkRanges g c v → (v.east ≤ 1000) × (v.south ≤ 1000)
links_few g c v r = grind (arith, nat_tests)

module _ (g : Grid) (vs : List Calibration) (ranged : InRange g vs) where
  at_cell : (c : ℕ) → c < cells g → LinkRanges g c (values_at vs c)
  at_cell c l = link_ranges g c (values_at vs c) (ranged c l)

  pub link-few : (a b : ℕ) → link_time g vs a b ≤ 1000
  link-few a b =
      elim (cases_lt (min a b) (cells g)) [
        | inl l ↦ grind (arith, nat_tests, links_few g (min a b) (values_at vs (min a b)) (at_cell (min a b) l))
        | inr h ↦ grind (arith, nat_tests)
      ]

  module _ (fit : GridFit g) where
    -- the lower of two neighbours in a row has an east link, and of two in a column a south link
    east_takes : (c d : ℕ) → c < cells g → column g c + 1 ≡ column g d → 0 < (values_at vs c).east
    east_takes c d l f = let q = (at_cell c l).east in grind (arith, nat_tests, mod-lt d fit.some_columns)

    south_takes : (c d : ℕ) → c < cells g → d < cells g → row g c + 1 ≡ row g d → 0 < (values_at vs c).south
    south_takes c d l m f =
        let p : row g d < g.rows = (div-lt_iff_lt-mul {k = g.columns} {x = d} {y = g.rows} fit.some_columns).1 m in
        let q = (at_cell c l).south in
        grind (arith, nat_tests)

    pub link-takes : (a b : ℕ) → Neighbours g a b → 0 < link_time g vs a b
    link-takes a b (l, m, inl (e, inl f)) = let t = neighbours_test g a b (l, m, inl (e, inl f)) in grind (arith, nat_tests, row_before g a b e f, east_takes a b l f)
    link-takes a b (l, m, inl (e, inr f)) = let t = neighbours_test g a b (l, m, inl (e, inr f)) in grind (arith, nat_tests, row_before g b a (sym e) f, east_takes b a m f)
    link-takes a b (l, m, inr (e, inl f)) = let t = neighbours_test g a b (l, m, inr (e, inl f)) in grind (arith, nat_tests, column-before g a b e f, south_takes a b l m f)
    link-takes a b (l, m, inr (e, inr f)) = let t = neighbours_test g a b (l, m, inr (e, inr f)) in grind (arith, nat_tests, column-before g b a (sym e) f, south_takes b a m l f)
