use Rattle.std.proofs.Common.{◌≡◌, ◌*◌, ◌≤◌, length}
use Rattle.lister.proofs.FirstBlocks.{first_blocks}
use Rattle.lister.proofs.counts.operation_total.Given as goal

abbrev pub invariant-loop-gate : goal.invariant-loop-gate
invariant-loop-gate g l = record {
  counted : l.total ≡ length (first_blocks l.layout (g.R.RouteRule.route l.rule) l.gates l.gate-index);
  few : l.total ≤ 373 * l.gate-index;
}
