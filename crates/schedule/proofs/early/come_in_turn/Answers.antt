use Rattle.std.proofs.Common.{◌≡◌, true, rules, subst, arith}
use Rattle.schedule.specs.Schedules.{span_at}
use Rattle.schedule.specs.Sweeps.{Taken}
use Rattle.schedule.proofs.Sweeps.{turn_more, turn_all}
use Rattle.schedule.proofs.early.come_in_turn.Goals as goal

pub loop-span-preserved : goal.loop-span-preserved
loop-span-preserved c =
    let yes : c.take_labels.result ≡ true = search rules in
    let taken = subst (Taken (span_at c.args.spans.now c.loop-span.span-index) c.loop-span.free c.take_labels.new.free) yes c.take_labels.ensures in
    turn_more c.args.spans.now c.loop-span.free c.take_labels.new.free c.loop-span.span-index c.loop-span.invariant taken

pub returns : goal.returns
returns c e = turn_all c.args.spans.now c.loop-span.free c.loop-span.span-index (omega arith) c.loop-span.invariant
