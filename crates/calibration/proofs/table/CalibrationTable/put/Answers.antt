use Rattle.std.proofs.Common.{◌∙◌, length-set}
use Rattle.grid.specs.Grids.{grid_of}
use Rattle.calibration.proofs.Ranges.{set-in_range, accepted}
use Rattle.calibration.proofs.table.CalibrationTable.put.Goals as goal

pub invariant_of-self : goal.invariant_of-self
invariant_of-self c =
    let t = c.args.self.now in
    let vs = t.cells.items in
    let a = accepted (grid_of t.machine) c.args.cell c.args.values c.requires in
    record {
      whole = length-set vs c.args.cell c.args.values ∙ t.whole;
      ranged = set-in_range (grid_of t.machine) vs c.args.cell c.args.values t.whole a.0 a.1 t.ranged;
    }
