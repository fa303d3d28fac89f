use Rattle.std.proofs.Common.{◌≡◌, ◌≤◌, List, length, take, sym, ◌∙◌, subst, ap₂, arith, length-take-le, get_or-take}
use Rattle.refusal.specs.Refusals.{ok_unless}
use Rattle.grid.proofs.Fits.{machine_fit}
use Rattle.spans.specs.Layouts.{layout_plan}
use Rattle.judge.specs.Judging.{SpanOf, SpansOf}
use Rattle.spans.specs.declared.span.Span.{Span}
use Rattle.schedule.specs.Schedules.{no_span}
use Rattle.judge.proofs.Spans.{broken-same, latest-same}
use Rattle.judge.proofs.spans_of.check_spans.Goals as goal

pub returns : goal.returns
returns g c =
    let t = c.args.layout.now.table.now in
    let p = layout_plan c.args.layout.now c.args.gates.now in
    let R = g.R.RouteRule.route c.args.rule.now in
    let n = length c.args.gates.now in
    let all = c.write_spans.new.out in
    let ss : List Span = take n all in
    let fewer : n ≤ length all = omega arith in
    let long : length ss ≡ n = length-take-le n all fewer in
    let sp : SpansOf p R n ss = λ i h. subst (SpanOf p R i) (sym (get_or-take n all i no_span (omega arith))) (c.write_spans.ensures i h) in
    c.check_schedule.ensures
    ∙ ap₂ ok_unless (broken-same p R ss long sp (machine_fit t.machine) (g.met.R.RouteRule.lawful c.args.rule.now) c.requires.offered) (latest-same p R ss long sp)
