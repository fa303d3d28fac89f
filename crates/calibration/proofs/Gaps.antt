-- The time of a link by how far apart the numbers of its cells are. Assumes nothing.
use Rattle.std.proofs.Common.{◌≡◌, ℕ, ◌+◌, ◌-◌, ◌*◌, ◌<◌, ◌≤◌, max, min, false, cond, eqb, List, sym, ap, ap₂, ◌∙◌, inl, inr, div-add-mod', mod-lt, arith}
use Rattle.std.proofs.lemmas.Bool.{cases_lt, cases_eq}
use Rattle.std.proofs.lemmas.Bool.Decides.{nat_tests}
use Rattle.std.proofs.lemmas.Nat.{div-mul-add, mod-mul-add}
use Rattle.grid.specs.Grids.{Grid, GridFit, cells, column, row, are_neighbours}
use Rattle.calibration.specs.declared.values.Calibration.{Calibration}
use Rattle.calibration.specs.Calibrations.{values_at, InRange, time_over_gap, link_time}
use Rattle.calibration.proofs.Links.{link_ranges}

module _ (g : Grid) (fit : GridFit g) where
  east_place : (c : ℕ) → column g c + 1 < g.columns → (column g (c + 1) ≡ column g c + 1) × (row g (c + 1) ≡ row g c)
  east_place c h =
      let e : c + 1 ≡ row g c * g.columns + (column g c + 1) = omega (arith, div-add-mod' c g.columns) in (
        ap (column g) e ∙ mod-mul-add (row g c) g.columns (column g c + 1) h,
        ap (row g) e ∙ div-mul-add (row g c) g.columns (column g c + 1) h,
      )

  south_place : (c : ℕ) → (column g (c + g.columns) ≡ column g c) × (row g (c + g.columns) ≡ row g c + 1)
  south_place c =
      let l = mod-lt c fit.some_columns in
      let e : c + g.columns ≡ (row g c + 1) * g.columns + column g c = grind (arith, div-add-mod' c g.columns) in (
        ap (column g) e ∙ mod-mul-add (row g c + 1) g.columns (column g c) l,
        ap (row g) e ∙ div-mul-add (row g c + 1) g.columns (column g c) l,
      )

  -- cells of one row that are neighbours differ by 1, and those of one column by the number of columns
  gap_in_row : (c d : ℕ) → row g c ≡ row g d → column g c + 1 ≡ column g d → d ≡ c + 1
  gap_in_row c d e f = grind (arith, div-add-mod' c g.columns, div-add-mod' d g.columns)

  gap_in_column : (c d : ℕ) → column g c ≡ column g d → row g c + 1 ≡ row g d → d ≡ c + g.columns
  gap_in_column c d e f = grind (arith, div-add-mod' c g.columns, div-add-mod' d g.columns)

  module _ (vs : List Calibration) (ranged : InRange g vs) where
    -- what a gap of d above the cell c gives
    abbrev across : ℕ → ℕ → ℕ
    across c d = time_over_gap g.columns (values_at vs c) d

    one_east : (c : ℕ) → c + 1 < cells g → column g c + 1 < g.columns → link_time g vs c (c + 1) ≡ across c 1
    one_east c l h = let p = east_place c h in let r = link_ranges g c (values_at vs c) (ranged c (omega arith)) in let q = r.east in grind (arith, nat_tests)

    one_south : (c : ℕ) → c + g.columns < cells g → link_time g vs c (c + g.columns) ≡ across c g.columns
    one_south c l =
        let p = south_place c in
        let r = link_ranges g c (values_at vs c) (ranged c (omega arith)) in
        let q = r.east in
        let s = fit.some_columns in
        grind (arith, nat_tests)

    -- any other two are no neighbours
    apart : (c d : ℕ) → (d ≡ 1 → column g c + 1 < g.columns → ⊥) → (d ≡ g.columns → ⊥) → are_neighbours g c (c + d) ≡ false
    apart c d u v = grind (arith, nat_tests, gap_in_row c (c + d), gap_in_row (c + d) c, gap_in_column c (c + d), gap_in_column (c + d) c, fit.some_columns, mod-lt (c + d) fit.some_columns)

    by_gap_up : (c d : ℕ) → c + d < cells g → link_time g vs c (c + d) ≡ across c d
    by_gap_up c d l = elim (cases_eq d g.columns) [
      | inl e ↦ ap (λ m. link_time g vs c (c + m)) e ∙ one_south c (omega arith) ∙ ap (across c) (sym e)
      | inr e ↦ elim (cases_eq d 1) [
        | inl f ↦ elim (cases_lt (column g c + 1) g.columns) [
          | inl h ↦ ap (λ m. link_time g vs c (c + m)) f ∙ one_east c (omega arith) h ∙ ap (across c) (sym f)
          | inr h ↦ let r = (link_ranges g c (values_at vs c) (ranged c (omega arith))).east in let a = apart c d (λ i j. absurd (omega arith)) e in grind (arith, nat_tests)
        ]
        | inr f ↦ let a = apart c d (λ i j. f i) e in grind (arith, nat_tests)
      ]
    ]

    turned : (a b : ℕ) → link_time g vs a b ≡ link_time g vs b a
    turned a b =
        let n : are_neighbours g a b ≡ are_neighbours g b a = grind (arith, nat_tests) in
        let r : eqb (row g a) (row g b) ≡ eqb (row g b) (row g a) = grind (arith, nat_tests) in
        let m : min a b ≡ min b a = omega arith in
        ap (λ t. cond t (cond (eqb (row g a) (row g b)) (values_at vs (min a b)).east (values_at vs (min a b)).south) 0) n
        ∙ ap (λ t. cond (are_neighbours g b a) (cond t (values_at vs (min a b)).east (values_at vs (min a b)).south) 0) r
        ∙ ap (λ c. cond (are_neighbours g b a) (cond (eqb (row g b) (row g a)) (values_at vs c).east (values_at vs c).south) 0) m

    by_gap_from : (a b : ℕ) → a ≤ b → b < cells g → link_time g vs a b ≡ across a (b - a)
    by_gap_from a b h l = let e : b ≡ a + (b - a) = omega arith in ap (link_time g vs a) e ∙ by_gap_up a (b - a) (omega arith)

    -- the time by the lower of the cells and the gap above it, both ways
    pub by_gap : (a b : ℕ) → max a b < cells g → (time_over_gap g.columns (values_at vs (min a b)) (max a b - min a b) ≡ link_time g vs a b) × (time_over_gap g.columns (values_at vs (min a b)) (max a b - min a b) ≡ link_time g vs b a)
    by_gap a b l = elim (cases_lt b a) [
      | inl h ↦ up b a (omega arith) (omega arith) (omega arith) (omega arith)
      | inr h ↦ let p = up a b h (omega arith) (omega arith) (omega arith) in (p.1, p.0)
    ]
      where
        up : (c d : ℕ) → c ≤ d → d < cells g → c ≡ min a b → d ≡ max a b → (time_over_gap g.columns (values_at vs (min a b)) (max a b - min a b) ≡ link_time g vs d c) × (time_over_gap g.columns (values_at vs (min a b)) (max a b - min a b) ≡ link_time g vs c d)
        up c d h k e f =
            let p : time_over_gap g.columns (values_at vs (min a b)) (max a b - min a b) ≡ link_time g vs c d = sym (by_gap_from c d h k ∙ ap₂ (λ x y. across x (y - x)) e f) in
            (p ∙ turned c d, p)
