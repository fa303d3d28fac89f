-- The set of a bent way's cells, cell by cell. Assumes nothing.
use Rattle.std.proofs.Common.{◌≡◌, ℕ, ◌+◌, ◌<◌, Bool, length, get_or, take, sym, ap₂, ◌∙◌, zero-add, arith}
use Rattle.std.proofs.lemmas.List.FromFn.{length-map-range_with_len, get_or-map-range_with_len}
use Rattle.grid.specs.CellSets.{with_cell, listed_cells}
use Rattle.grid.proofs.Puts.{listed_more}
use Rattle.rules.specs.declared.bend.Bend.{Bend}
use Rattle.rules.specs.Bends.{step_count}
use Rattle.rules.specs.Ways.{cell_of, way_of}

pub way_length : (b : Bend) → length (way_of b) ≡ step_count b.from b.to + 1
way_length b = length-map-range_with_len (cell_of b) 0 (step_count b.from b.to + 1)

-- one cell more
pub set_more : (b : Bend) (k : ℕ) (was now : ℕ → Bool) (cell : ℕ) → k < step_count b.from b.to + 1 → was ≡ listed_cells (take k (way_of b)) → cell ≡ cell_of b k → now ≡ with_cell cell was
    → now ≡ listed_cells (take (k + 1) (way_of b))
set_more b k was now cell l h e f =
    let at : get_or (way_of b) k 0 ≡ cell_of b k = get_or-map-range_with_len (cell_of b) 0 (step_count b.from b.to + 1) k k 0 l (zero-add k) in
    f ∙ ap₂ with_cell (e ∙ sym at) h ∙ sym (listed_more (way_of b) k (omega (arith, way_length b))).1
