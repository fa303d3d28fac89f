-- The first broken constraint, part by part. Assumes nothing.
use Rattle.std.proofs.Common.{◌≡◌, ◌≤◌, Some, None, Option, sym, refl, ap, ◌∙◌}
use Rattle.std.proofs.lemmas.Bool.{le-ltb}
use Rattle.refusal.specs.declared.Refusal.{Refusal}
use Rattle.refusal.specs.Refusals.{refuse_if, or_else, ok_unless}
use Rattle.route.specs.Routes.{Route}
use Rattle.plan.specs.Plans.{Plan, gate_count}
use Rattle.plan.specs.Verdicts.{no_home, one_home, no_timing, no_choice, too_early, overlap, too_late, found, first_broken, latest_end, verdict, judged}
use Rattle.placement.specs.Placements.{homes_broken}
use Rattle.judge.specs.Judging.{too_many, untimed, unoffered, last_three, broken_by_parts}

or_else_none : (o : Option Refusal) → or_else o None ≡ o
or_else_none None = refl
or_else_none (Some r) = refl

or_else-chain : (a b c : Option Refusal) → or_else (or_else a b) c ≡ or_else a (or_else b c)
or_else-chain None b c = refl
or_else-chain (Some r) b c = refl

-- homes first, then the others
homes_same : (p : Plan) (R : Route)
    → or_else (homes_broken p.machine p.homes p.gates) (or_else (untimed p.gates) (or_else (unoffered R.choices p.gates) (last_three p R))) ≡ first_broken p R
homes_same p R =
    or_else-chain (found p R no_home) (found p R one_home) (or_else (found p R no_timing) (or_else (found p R no_choice) (last_three p R)))
    ∙ ap (λ o. or_else (found p R no_home) (or_else (found p R one_home) (or_else (found p R no_timing) (or_else (found p R no_choice) (or_else (found p R too_early) (or_else (found p R overlap) o)))))) (sym (or_else_none (found p R too_late)))

pub parts_same : (p : Plan) (R : Route) → ok_unless (broken_by_parts p R) (latest_end p R) ≡ judged p R
parts_same p R = ap (λ o. ok_unless (or_else (too_many p.gates) o) (latest_end p R)) (homes_same p R)

-- of at most 256 gates the verdict
pub judged-few : (p : Plan) (R : Route) → gate_count p ≤ 256 → judged p R ≡ verdict p R
judged-few p R h = ap (λ t. ok_unless (or_else (refuse_if t Refusal.ProgramFull) (first_broken p R)) (latest_end p R)) (le-ltb 256 (gate_count p) h)
