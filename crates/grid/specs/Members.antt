-- What a set of cells in code has. Assumes nothing.
use Rattle.std.specs.Prelude.{ℕ, Bool}
use Rattle.bits.specs.Bits.{bit}
use Rattle.grid.specs.declared.cell_set.CellSet.{CellSet}

-- the set has the cell: its bit is 1
abbrev pub has : CellSet → ℕ → Bool
has s = bit s.bits
