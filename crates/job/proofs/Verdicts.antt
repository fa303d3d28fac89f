-- What judging a job's plan answers, in the words of the book. Assumes nothing.
use Rattle.std.proofs.Common.{◌≡◌, ℕ, ◌<◌, cond, leb, Ok, Err, Option, Result, sym, ap, ◌∙◌, subst, rules}
use Rattle.std.proofs.lemmas.Bool.{leb-false, lt-ltb}
use Rattle.refusal.specs.declared.Refusal.{Refusal}
use Rattle.refusal.specs.Refusals.{refuse_if, or_else, ok_unless}
use Rattle.refusal.proofs.Accepted.{passed, neither, accepted}
use Rattle.route.specs.Routes.{Route}
use Rattle.plan.specs.declared.gate.Timing.{Timing}
use Rattle.plan.specs.Plans.{Plan, gate_count}
use Rattle.plan.specs.Kept.{Kept}
use Rattle.plan.specs.Verdicts.{judged, verdict, first_broken, latest_end, Fair}
use Rattle.plan.proofs.Verdicts.{fair}
use Rattle.book.specs.Refusals.{timing_refusal}
use Rattle.book.specs.Books.{timed}
use Rattle.book.proofs.Kept.{kept-timed}
use Rattle.judge.proofs.Parts.{judged-few}
use Rattle.trial.specs.Trials.{with_timing, judged_with}
use Rattle.store.specs.Stores.{timing_at}

module _ (p : Plan) (R : Route) (k : Kept p) where
  -- a plan that keeps what jobs keep has at most 256 gates
  pub judged_kept : (a : Result ℕ Refusal) → a ≡ judged p R → a ≡ verdict p R
  judged_kept a e = e ∙ judged-few p R k.few_gates

  -- and its verdict is fair
  pub fair_kept : (a : Result ℕ Refusal) → a ≡ judged p R → Fair p R a
  fair_kept a e = subst (Fair p R) (sym (judged_kept a e)) (fair p R)

  same_value : {X : Type 0} (o : Option Refusal) (x y : X) → Ok y ≡ ok_unless o x → y ≡ x
  same_value o x y e = search rules

  -- with a timing that is not refused
  pub tried_kept : (g s c : ℕ) (t : Timing) (a : Result ℕ Refusal) → Ok t ≡ ok_unless (timing_refusal p g s c) (timing_at s c) → a ≡ judged_with p R g t
      → a ≡ ok_unless (or_else (timing_refusal p g s c) (first_broken (timed p g s c) R)) (latest_end (timed p g s c) R)
  tried_kept g s c t a o e =
      let n = accepted (timing_refusal p g s c) (timing_at s c) t o in
      let m = neither (refuse_if (leb (gate_count p) g) (Refusal.NoSuchGate g)) _ n in
      let lt : g < gate_count p = leb-false (gate_count p) g (passed (leb (gate_count p) g) (Refusal.NoSuchGate g) m.0) in
      e
      ∙ ap (λ b. cond b (judged (with_timing p g t) R) (Err (Refusal.NoSuchGate g))) (lt-ltb g (gate_count p) lt)
      ∙ ap (λ x. judged (with_timing p g x) R) (same_value (timing_refusal p g s c) (timing_at s c) t o)
      ∙ judged-few (timed p g s c) R (kept-timed p g s c k n).few_gates
      ∙ sym (ap (λ r. ok_unless (or_else r (first_broken (timed p g s c) R)) (latest_end (timed p g s c) R)) n)
