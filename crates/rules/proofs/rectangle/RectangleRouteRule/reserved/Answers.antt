use Rattle.std.proofs.Common.{◌≡◌, ℕ, ◌+◌, ◌<◌, Bool, true, false, ◌&&◌, ltb, sym, refl, ap, ◌∙◌, subst, arith}
use mathlib.Core.Path.{fun_ext}
use Rattle.grid.specs.Grids.{grid_of, cells}
use Rattle.grid.specs.Members.{has}
use Rattle.grid.proofs.Fits.{machine_fit, few-cells}
use Rattle.rules.specs.Bends.{in_rectangle}
use Rattle.rules.proofs.Scans.{Scanned, scanned_none, scanned_in, scanned_out}
use Rattle.rules.proofs.rectangle.RectangleRouteRule.reserved.Goals as goal
use Rattle.rules.proofs.rectangle.RectangleRouteRule.reserved.Goals.{then-encloses, else-encloses}

pub loop-cell-init : goal.loop-cell-init
loop-cell-init c = scanned_none _ (has c.new-set.result) (λ x. ap (λ f. f x) c.new-set.ensures)

pub loop-cell-preserved : goal.loop-cell-preserved
loop-cell-preserved c =
    let ends = c.args.ends in
    let g = grid_of ends.machine in
    let test : ℕ → Bool = in_rectangle g ends.from ends.to in
    let k = c.loop-cell.cell in
    let low : k < 64 = omega (arith, few-cells g (machine_fit ends.machine), c.cells-cell-end.ensures, ap cells c.machine.ensures, c.loop-cell-test.true) in
    elim c.if-encloses.branch [
      | then-encloses w ↦ subst (Scanned test (k + 1)) (sym (ap has w.set-is ∙ w.insert.ensures.after)) (scanned_in test k (has c.loop-cell.set) c.loop-cell.invariant (sym c.encloses.ensures ∙ w.if-encloses.true) low)
      | else-encloses w ↦ subst (Scanned test (k + 1)) (sym (ap has w.set-is)) (scanned_out test k (has c.loop-cell.set) c.loop-cell.invariant (sym c.encloses.ensures ∙ w.if-encloses.false))
    ]

twice : (a b : Bool) → (a && (a && b)) ≡ (a && b)
twice true b = refl
twice false b = refl

pub returns : goal.returns
returns c =
    let g = grid_of c.args.ends.machine in
    let all : c.loop-cell.cell ≡ cells g = omega (arith, c.cells-cell-end.ensures, ap cells c.machine.ensures) in
    fun_ext (λ x. c.loop-cell.invariant x ∙ ap (λ n. ltb x n && in_rectangle g c.args.ends.from c.args.ends.to x) all ∙ twice (ltb x (cells g)) _)
