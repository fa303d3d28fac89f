use Rattle.std.proofs.Common.{◌≡◌, ℕ, ◌<◌, false, length}
use Rattle.schedule.specs.Schedules.{span_at, overlaps}
use Rattle.schedule.proofs.overlap.are_clear.Given as goal

abbrev pub invariant-loop-i : goal.invariant-loop-i
invariant-loop-i l = (i j : ℕ) → i < l.i → i < j → j < length l.spans → overlaps (span_at l.spans i) (span_at l.spans j) ≡ false
