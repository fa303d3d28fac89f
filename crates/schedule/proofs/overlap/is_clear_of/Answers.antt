use Rattle.std.proofs.Common.{inl, inr, sym, ap, ◌∙◌, arith}
use Rattle.std.proofs.lemmas.Bool.{cases_lt}
use Rattle.schedule.specs.Schedules.{no_span, span_at, meeting}
use Rattle.schedule.proofs.Sweeps.{clear_late, clear_apart}
use Rattle.schedule.proofs.overlap.is_clear_of.Goals as goal

pub returns-then-first-second : goal.returns-then-first-second
returns-then-first-second c e k l =
    let s = c.args.first.now in
    let ts = c.args.later.now in
    let i = c.loop-second.second-index in
    elim (cases_lt k i) [
      | inl h ↦ c.loop-second.invariant k h
      | inr h ↦ clear_late s (span_at ts k) (omega (arith, c.requires i k no_span h l, c.if-first-second.true))
    ]

pub loop-second-preserved : goal.loop-second-preserved
loop-second-preserved c k l =
    let s = c.args.first.now in
    let ts = c.args.later.now in
    let i = c.loop-second.second-index in
    elim (cases_lt k i) [
      | inl h ↦ c.loop-second.invariant k h
      | inr h ↦ clear_apart s (span_at ts k) (ap (λ m. meeting s.cells (span_at ts m).cells) (omega arith) ∙ sym c.have_common_cell.ensures ∙ c.if-have_common_cell.false)
    ]
