use Rattle.std.proofs.Common.{◌+◌, arith}
use Rattle.route.specs.Paths.{path_cells}
use Rattle.rules.specs.Ways.{cell_of}
use Rattle.rules.proofs.Ways.{way_more}
use Rattle.rules.proofs.bend.Bend.path.Goals as goal

pub loop-k-preserved : goal.loop-k-preserved
loop-k-preserved c = (
  c.next-cell.ensures,
  way_more (cell_of c.args.self.now) (c.loop-k.k + 1) (path_cells c.loop-k.path) _ c.next-cell.result c.push-in-loop-k.result c.loop-k.invariant.1 (omega (arith, c.loop-k-test.true, c.steps-k-end.ensures.few)) c.next-cell.ensures c.push-in-loop-k.ensures.answer c.push-in-loop-k.ensures.after,
)
