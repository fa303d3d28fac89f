use Rattle.std.proofs.Common.{length, sym, ap, ◌∙◌, subst}
use Rattle.std.proofs.lemmas.List.FromFn.{length-map-range_with_len}
use Rattle.grid.specs.Grids.{grid_of, cells}
use Rattle.calibration.specs.Calibrations.{first_values, InRange}
use Rattle.calibration.proofs.Ranges.{first-in_range}
use Rattle.calibration.proofs.table.CalibrationTable.new.Goals as goal

pub invariant_of-result : goal.invariant_of-result
invariant_of-result c =
    let g = grid_of c.args.machine in
    let e = c.in_ok-cells.ensures in
    record {
      whole = ap length e ∙ length-map-range_with_len (first_values g) 0 (cells g);
      ranged = subst (InRange g) (sym e) (first-in_range g);
    }
