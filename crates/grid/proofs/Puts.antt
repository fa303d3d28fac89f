-- A cell that is put into a set, and the cells of a list one after another. Assumes nothing.
-- The first part of each conclusion says nothing: it shows `grind` the term to match.
use Rattle.std.proofs.Common.{◌≡◌, ℕ, ◌+◌, ◌*◌, ◌%◌, ◌^◌, ◌<◌, ◌&&◌, ◌||◌, eqb, ltb, List, length, get_or, take, refl, sym, ap, ◌∙◌}
use mathlib.Core.Path.{fun_ext}
use lib.Bits.{bit_or}
use Rattle.std.proofs.lemmas.Bool.{lt-ltb}
use Rattle.orders.proofs.Lists.{any-more}
use Rattle.bits.specs.Bits.{bit}
use Rattle.bits.proofs.Bits.{bit-set}
use Rattle.grid.specs.CellSets.{with_cell, listed_cells}

-- the cell's bit is set
pub cell_put : (bits cell : ℕ) → cell < 64 → (bit_or bits (1 * 2 ^ cell % 2 ^ 64) ≡ bit_or bits (1 * 2 ^ cell % 2 ^ 64)) × (bit (bit_or bits (1 * 2 ^ cell % 2 ^ 64)) ≡ with_cell cell (bit bits))
cell_put bits cell h = (refl, fun_ext (λ x. bit-set bits cell h x ∙ ap (λ t. (t && eqb x cell) || bit bits x) (sym (lt-ltb cell 64 h))))

-- the list goes on by one
pub listed_more : (cs : List ℕ) (i : ℕ) → i < length cs → (take (i + 1) cs ≡ take (i + 1) cs) × (listed_cells (take (i + 1) cs) ≡ with_cell (get_or cs i 0) (listed_cells (take i cs)))
listed_more cs i h = (refl, fun_ext (λ x. any-more (λ d. ltb d 64 && eqb x d) cs i 0 h))
