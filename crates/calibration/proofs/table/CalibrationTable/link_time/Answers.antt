use Rattle.std.proofs.Common.{◌≡◌, ◌-◌, ◌<◌, max, min, ap, ap₂, ◌∙◌, arith}
use Rattle.std.proofs.lemmas.List.{get_or_read}
use Rattle.grid.specs.Grids.{cells}
use Rattle.grid.proofs.Fits.{machine_fit}
use Rattle.calibration.specs.Calibrations.{time_over_gap, link_time, values_at, no_values}
use Rattle.calibration.specs.Tables.{table_grid, table_values}
use Rattle.calibration.proofs.Gaps.{by_gap}
use Rattle.calibration.proofs.table.CalibrationTable.link_time.Goals as goal
use Rattle.calibration.proofs.table.CalibrationTable.link_time.Goals.{After-time_over_gap}

timed : (c : After-time_over_gap) → let t = c.args.self.now in let a = c.args.a in let b = c.args.b in
    (c.time_over_gap.result ≡ link_time (table_grid t) (table_values t) a b) × (c.time_over_gap.result ≡ link_time (table_grid t) (table_values t) b a)
timed c =
    let t = c.args.self.now in
    let a = c.args.a in
    let b = c.args.b in
    let inside : max a b < cells (table_grid t) = omega (arith, c.if-upper-cells.false, c.max-upper.ensures, c.cells.ensures) in
    let p = by_gap (table_grid t) (machine_fit t.machine) (table_values t) t.ranged a b inside in
    let lower : c.min-lower.result ≡ min a b = c.min-lower.ensures in
    let gap : c.max-upper.result - c.min-lower.result ≡ max a b - min a b = ap₂ (λ x y. x - y) c.max-upper.ensures c.min-lower.ensures in
    let values : c.index.result.now ≡ values_at (table_values t) (min a b) =
    get_or_read t.cells.items c.from.result c.index.result.now (omega (arith, t.whole, c.from.ensures, lower, inside)) c.index.ensures no_values ∙ ap (values_at (table_values t)) (c.from.ensures ∙ lower) in
    let e : c.time_over_gap.result ≡ time_over_gap (table_grid t).columns (values_at (table_values t) (min a b)) (max a b - min a b) =
    c.time_over_gap.ensures ∙ ap (λ n. time_over_gap n c.index.result.now (c.max-upper.result - c.min-lower.result)) (ap (λ q. q.0) c.size-columns.ensures) ∙ ap₂ (time_over_gap (table_grid t).columns) values gap in
    (e ∙ p.0, e ∙ p.1)

pub returns-clause-value : goal.returns-clause-value
returns-clause-value c = (timed (goal.at.returns-clause-value c).After-time_over_gap).0

pub returns-clause-both_ways : goal.returns-clause-both_ways
returns-clause-both_ways c = (timed (goal.at.returns-clause-both_ways c).After-time_over_gap).1
