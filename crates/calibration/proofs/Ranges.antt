-- The values of cells stay in their ranges. Assumes nothing.
use Rattle.std.proofs.Common.{◌≡◌, ℕ, ◌<◌, true, List, length, get_or, set, None, sym, subst, inl, inr, zero-add, arith}
use Rattle.std.proofs.lemmas.List.FromFn.{get_or-map-range_with_len}
use Rattle.std.proofs.lemmas.List.{get_or-set_same, get_or-set_other}
use Rattle.std.proofs.lemmas.Bool.{cases_eq}
use Rattle.std.proofs.lemmas.Bool.Decides.{nat_tests}
use Rattle.grid.specs.Grids.{Grid, cells}
use Rattle.calibration.specs.declared.values.Calibration.{Calibration}
use Rattle.calibration.specs.Calibrations.{calibration_ok, first_values, first_calibration, no_values, InRange, calibrating_refusal}

first_ok : (g : Grid) (c : ℕ) → calibration_ok g c (first_values g c) ≡ true
first_ok g c = grind (arith, nat_tests)

-- the values at first are in range
pub first-in_range : (g : Grid) → InRange g (first_calibration g)
first-in_range g c l = subst (λ v. calibration_ok g c v ≡ true) (sym (get_or-map-range_with_len (first_values g) 0 (cells g) c c no_values l (zero-add c))) (first_ok g c)

-- and other values of one cell, where those are in range
pub set-in_range : (g : Grid) (vs : List Calibration) (k : ℕ) (v : Calibration) → length vs ≡ cells g → k < cells g → calibration_ok g k v ≡ true → InRange g vs → InRange g (set vs k v)
set-in_range g vs k v long in_grid ok all c l =
    let holds : ℕ → Calibration → Type 0 = λ d w. calibration_ok g d w ≡ true in
    elim (cases_eq c k) [
      | inl e ↦ subst (λ d. holds d (get_or (set vs k v) d no_values)) (sym e) (subst (holds k) (sym (get_or-set_same vs k v no_values (omega arith))) ok)
      | inr n ↦ subst (holds c) (sym (get_or-set_other vs k c v no_values n)) (all c l)
    ]

-- values that are not refused are those of a cell, and in range
pub accepted : (g : Grid) (c : ℕ) (v : Calibration) → calibrating_refusal g c v ≡ None → (c < cells g) × (calibration_ok g c v ≡ true)
accepted g c v e = grind (arith, nat_tests)
