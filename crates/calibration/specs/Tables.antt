-- What a calibration table holds. Assumes nothing.
use Rattle.std.specs.Prelude.{List, vec_items}
use Rattle.grid.specs.Grids.{Grid, grid_of}
use Rattle.calibration.specs.declared.values.Calibration.{Calibration}
use Rattle.calibration.specs.declared.table.CalibrationTable.{CalibrationTable}

-- the grid it is of
abbrev pub table_grid : CalibrationTable → Grid
table_grid t = grid_of t.machine

-- the values, by cell
abbrev pub table_values : CalibrationTable → List Calibration
table_values t = vec_items t.cells
