use Rattle.std.proofs.Common.{◌≡◌, ℕ, ◌<◌, [], None}
use Rattle.spans.specs.Layouts.{layout_plan}
use Rattle.schedule.specs.Schedules.{span_at, first_late_label}
use Rattle.schedule.proofs.late.check_late.Given as goal

abbrev pub invariant-loop-gate : goal.invariant-loop-gate
invariant-loop-gate l = (k : ℕ) → k < l.gate → first_late_label (layout_plan l.layout []) (span_at l.spans k) ≡ None
