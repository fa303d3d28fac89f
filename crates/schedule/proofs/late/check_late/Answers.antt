use Rattle.std.proofs.Common.{◌≡◌, Some, Err, [], length, sym, ap, ◌∙◌, arith, below_more}
use Rattle.std.specs.Option.{option_map}
use Rattle.refusal.specs.declared.Refusal.{Refusal}
use Rattle.refusal.specs.Refusals.{ok_unless}
use Rattle.search.specs.Searches.{scan_pairs}
use Rattle.search.proofs.Searches.{scan-found, scan-none}
use Rattle.circuit.specs.Actions.{wire_at}
use Rattle.plan.specs.Verdicts.{home_or}
use Rattle.spans.specs.Layouts.{layout_plan}
use Rattle.schedule.specs.Schedules.{span_at, span_late}
use Rattle.schedule.proofs.LatePlaces.{late-none, late-some}
use Rattle.schedule.proofs.late.check_late.Goals as goal

pub loop-gate-preserved : goal.loop-gate-preserved
loop-gate-preserved c = below_more _ _ c.loop-gate.invariant (sym c.first_late_label.ensures ∙ c.in_default.is)

pub returns-in-Some : goal.returns-in-Some
returns-in-Some c =
    let p = layout_plan c.args.layout.now [] in
    let ss = c.args.spans.now in
    let i = c.loop-gate.gate in
    let s = span_at ss i in
    let r = late-some p s c.in-Some.label (sym c.in-Some.ensures) in
    let e : scan_pairs (span_late p ss) (length ss) 2 ≡ Some (i, r.0) =
    scan-found (span_late p ss) 2 0 (length ss) i r.0 (omega arith) (omega arith) (λ k h. late-none p (span_at ss k) (c.loop-gate.invariant k h)) r.1 in
    ap (λ h. Err (Refusal.PastWindow i h)) (c.cell_of.ensures ∙ sym r.2)
    ∙ sym (ap (λ o. ok_unless (option_map (λ q. Refusal.PastWindow q.0 (home_or p (wire_at q.1 (span_at ss q.0).action))) o) tt) e)

pub returns : goal.returns
returns c =
    let p = layout_plan c.args.layout.now [] in
    let ss = c.args.spans.now in
    sym (ap (λ o. ok_unless (option_map (λ q. Refusal.PastWindow q.0 (home_or p (wire_at q.1 (span_at ss q.0).action))) o) tt)
    (scan-none (span_late p ss) 2 0 (length ss) (λ k h. late-none p (span_at ss k) (c.loop-gate.invariant k (omega arith)))))
