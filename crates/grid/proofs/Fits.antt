-- A machine's size is within its limits. Assumes nothing.
use Rattle.std.proofs.Common.{◌≤◌}
use Rattle.std.proofs.lemmas.Nat.{mul-le}
use Rattle.grid.specs.declared.machine.Machine.{Machine}
use Rattle.grid.specs.Grids.{Grid, GridFit, grid_of, cells}

pub machine_fit : (m : Machine) → GridFit (grid_of m)
machine_fit m = record { some_columns = m.wide.0; few_columns = m.wide.1; some_rows = m.high.0; few_rows = m.high.1 }

-- there are at most 64 cells
pub few-cells : (g : Grid) → GridFit g → cells g ≤ 64
few-cells g f = mul-le g.rows g.columns 8 8 f.few_rows f.few_columns
