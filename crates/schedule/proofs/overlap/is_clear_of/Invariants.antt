use Rattle.std.proofs.Common.{◌≡◌, ℕ, ◌<◌, false}
use Rattle.schedule.specs.Schedules.{span_at, overlaps}
use Rattle.schedule.proofs.overlap.is_clear_of.Given as goal

abbrev pub invariant-loop-second : goal.invariant-loop-second
invariant-loop-second l = (k : ℕ) → k < l.second-index → overlaps l.first (span_at l.later k) ≡ false
