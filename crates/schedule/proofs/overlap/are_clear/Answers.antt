use Rattle.std.proofs.Common.{◌≡◌, true, inl, inr, rules, ap, ◌+◌, ◌∙◌, arith}
use Rattle.std.proofs.lemmas.Bool.{cases_lt}
use Rattle.std.proofs.lemmas.List.{take_all, length-drop}
use Rattle.schedule.specs.Schedules.{span_at, overlaps}
use Rattle.schedule.proofs.Sweeps.{clear_row}
use Rattle.schedule.proofs.overlap.are_clear.Goals as goal

pub loop-i-preserved : goal.loop-i-preserved
loop-i-preserved c a b h l k =
    let ss = c.args.spans.now in
    let i = c.loop-i.i in
    let yes : c.is_clear_of.result ≡ true = search rules in
    elim (cases_lt a i) [
      | inl u ↦ c.loop-i.invariant a b u l k
      | inr u ↦ ap (λ m. overlaps (span_at ss m) (span_at ss b)) (omega arith) ∙ clear_row ss i _ (take_all _ _ (omega (arith, length-drop (i + 1) ss))) (c.is_clear_of.ensures yes) b (omega arith) k
    ]

pub returns : goal.returns
returns c e i j h l = c.loop-i.invariant i j (omega arith) h l
