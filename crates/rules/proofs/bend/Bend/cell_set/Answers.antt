use Rattle.std.proofs.Common.{◌+◌, ap, ◌∙◌, arith}
use Rattle.std.proofs.lemmas.List.{take_all}
use Rattle.grid.specs.CellSets.{listed_cells}
use Rattle.grid.specs.Members.{has}
use Rattle.rules.specs.Ways.{way_of}
use Rattle.rules.proofs.Sets.{way_length, set_more}
use Rattle.rules.proofs.bend.Bend.cell_set.Goals as goal

pub loop-k-init : goal.loop-k-init
loop-k-init c = (
  c.cell-cell.ensures,
  set_more c.args.self.now 0 (has c.new-set.result) (has c.insert.new.self) c.cell-cell.result (omega arith) c.new-set.ensures c.cell-cell.ensures c.insert.ensures.after,
)

pub loop-k-preserved : goal.loop-k-preserved
loop-k-preserved c = (
  c.next-cell.ensures,
  set_more c.args.self.now (c.loop-k.k + 1) (has c.loop-k.set) (has c.insert-in-loop-k.new.self) c.next-cell.result (omega (arith, c.loop-k-test.true, c.steps-k-end.ensures.value)) c.loop-k.invariant.1 c.next-cell.ensures c.insert-in-loop-k.ensures.after,
)

pub returns : goal.returns
returns c = c.loop-k.invariant.1 ∙ ap listed_cells (take_all (c.loop-k.k + 1) (way_of c.args.self.now) (omega (arith, way_length c.args.self.now, c.loop-k-test.false, c.steps-k-end.ensures.value)))
