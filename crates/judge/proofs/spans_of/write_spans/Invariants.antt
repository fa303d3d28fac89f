use Rattle.spans.specs.Layouts.{layout_plan}
use Rattle.judge.specs.Judging.{SpansOf}
use Rattle.judge.proofs.spans_of.write_spans.Given as goal

abbrev pub invariant-loop-i : goal.invariant-loop-i
invariant-loop-i g l = SpansOf (layout_plan l.layout l.gates) (g.R.RouteRule.route l.rule) l.i l.out
