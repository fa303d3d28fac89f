-- What judging would say of a plan in which one gate has another timing. Assumes nothing.
use Rattle.std.specs.Prelude.{ℕ, cond, Some, Err, Result, nat_lt}
use Rattle.refusal.specs.declared.Refusal.{Refusal}
use Rattle.route.specs.Routes.{Route}
use Rattle.plan.specs.declared.gate.Timing.{Timing}
use Rattle.plan.specs.Plans.{Plan, gate_count, retimed_at}
use Rattle.plan.specs.Verdicts.{judged}

-- the plan with the timing for the gate g
abbrev pub with_timing : Plan → ℕ → Timing → Plan
with_timing p g t = record { machine = p.machine; calibration = p.calibration; homes = p.homes; gates = retimed_at p.gates g (Some t) }

-- what judging would say of it, or that there is no such gate
abbrev pub judged_with : Plan → Route → ℕ → Timing → Result ℕ Refusal
judged_with p R g t = cond (nat_lt g (gate_count p)) (judged (with_timing p g t) R) (Err (Refusal.NoSuchGate g))
