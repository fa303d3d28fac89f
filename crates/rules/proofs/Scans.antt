-- A set filled cell by cell with those that pass a test. Assumes nothing.
use Rattle.std.proofs.Common.{◌≡◌, ℕ, ◌+◌, ◌<◌, Bool, true, false, ◌&&◌, ltb, arith}
use Rattle.std.proofs.lemmas.Bool.Decides.{nat_tests}
use Rattle.grid.specs.CellSets.{with_cell}

-- the cells below k that pass
abbrev pub Scanned : (ℕ → Bool) → ℕ → (ℕ → Bool) → Type 0
Scanned test k set = (x : ℕ) → set x ≡ (ltb x k && test x)

-- none below 0
pub scanned_none : (test set : ℕ → Bool) → ((x : ℕ) → set x ≡ false) → Scanned test 0 set
scanned_none test set none x = grind (arith, nat_tests, none x)

module _ (test : ℕ → Bool) (k : ℕ) (set : ℕ → Bool) (so_far : Scanned test k set) where
  -- the cell k passes, and is put in
  pub scanned_in : test k ≡ true → k < 64 → Scanned test (k + 1) (with_cell k set)
  scanned_in t low x = grind (arith, nat_tests, so_far x)

  -- the cell k does not pass
  pub scanned_out : test k ≡ false → Scanned test (k + 1) set
  scanned_out t x = grind (arith, nat_tests, so_far x)
