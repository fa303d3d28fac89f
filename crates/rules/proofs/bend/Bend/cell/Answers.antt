use Rattle.std.proofs.Common.{◌+◌, ◌*◌, ap, ap₂, ◌∙◌, arith}
use Rattle.grid.specs.Grids.{grid_of}
use Rattle.grid.proofs.Fits.{machine_fit, few-cells}
use Rattle.rules.specs.Legs.{is_row}
use Rattle.rules.specs.Bends.{bent_place}
use Rattle.rules.specs.BendsLemmas.{way_inside, cell_inside}
use Rattle.rules.proofs.bend.Bend.cell.Goals as goal

pub overflow_cast-result : goal.overflow_cast-result
overflow_cast-result c =
    let b = c.args.self.now in
    let g = grid_of b.machine in
    let fit = machine_fit b.machine in
    let at = bent_place (is_row b.first) b.from b.to c.args.k in
    let low = cell_inside g fit at (way_inside g fit (is_row b.first) b.from b.to b.from_inside b.to_inside c.args.k) in
    omega (arith, low, few-cells g fit, c.number.ensures.value ∙ ap₂ (λ x y. y * g.columns + x) (ap (λ p. p.0) c.place-x.ensures) (ap (λ p. p.1) c.place-x.ensures))
