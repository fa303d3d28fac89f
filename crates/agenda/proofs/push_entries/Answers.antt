use Rattle.std.proofs.Common.{◌≡◌, ◌+◌, ◌<◌, length, sym, refl, ap, subst, ◌∙◌, arith}
use Rattle.queue.specs.Held.{count, room}
use Rattle.plan.specs.Entries.{entry_before}
use Rattle.joining.specs.Joined.{Joined}
use Rattle.joining.proofs.Joined.{has_room, joined_none, joined_push}
use Rattle.agenda.proofs.Entries.{first_entries, no_entries, all_entries, timed_more, untimed_more, entry_within}
use Rattle.agenda.proofs.push_entries.Goals as goal
use Rattle.agenda.proofs.push_entries.Goals.{After-push, in-Some+in_ok-push, in_default}

pub loop-i-init : goal.loop-i-init
loop-i-init c = subst (λ es. Joined entry_before es c.args.queue.now c.args.queue.now) (sym (no_entries c.args.gates.now)) (joined_none entry_before c.args.queue.now)

refused : (c : goal.After-from_residual) → ⊥
refused c =
    let q = c.loop-i.queue in
    let within = entry_within c.args.gates.now c.loop-i.i c.in-Some.timing c.loop-i-test.true c.in-Some.is in
    let room : count q < room q = let k = c.loop-i.invariant.counted in let l = c.loop-i.invariant.lent.long in let h = c.requires.room in omega arith in
    has_room _ _ c.in_err-push.field-0.0 room (sym c.in_err-push.was ∙ c.push.ensures.answer)

pub returns-in_err-push : goal.returns-in_err-push
returns-in_err-push c = absurd (refused c)

pub loop-i-preserved : goal.loop-i-preserved
loop-i-preserved c =
    let gs = c.args.gates.now in
    let i = c.loop-i.i in
    let q = c.args.queue.now in
    elim c.match-gate.branch [
      | in-Some+in_ok-push w ↦
          let e = w.push.ensures in
          subst (λ r. Joined entry_before (first_entries gs (i + 1)) q r) (sym w.queue-is)
          (subst (λ es. Joined entry_before es q w.push.new.self) (sym (timed_more gs i w.in-Some.timing w.entry.result w.in-Some.is w.entry.ensures))
          (joined_push entry_before (first_entries gs i) _ q c.loop-i.queue w.push.new.self w.push.result w.in_ok-push.field-0 c.loop-i.invariant w.in_ok-push.was e.joins e.counted e.lent))
      | in_default w ↦
          subst (λ r. Joined entry_before (first_entries gs (i + 1)) q r) (sym w.queue-is)
          (subst (λ es. Joined entry_before es q c.loop-i.queue) (sym (untimed_more gs i w.in_default.is)) c.loop-i.invariant)
    ]

pub returns : goal.returns
returns c =
    let gs = c.args.gates.now in
    let e : c.loop-i.i ≡ length gs = omega arith in
    record {
      passes = refl;
      joined = subst (λ es. Joined entry_before es c.args.queue.now c.loop-i.queue) (ap (first_entries gs) e ∙ all_entries gs) c.loop-i.invariant;
    }
