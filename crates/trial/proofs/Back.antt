-- A timing written back. Assumes nothing.
use Rattle.std.proofs.Common.{◌≡◌, ℕ, ◌<◌, List, length, get_or, set, Option, ap, ◌∙◌}
use Rattle.std.proofs.lemmas.List.{set-set, set-get_or, get_or-set_same}
use Rattle.plan.specs.declared.gate.Timing.{Timing}
use Rattle.plan.specs.declared.gate.Gate.{Gate}
use Rattle.plan.specs.Plans.{no_gate, retimed, retimed_at}

-- the old timing written back
pub timing_back : (gs : List Gate) (i : ℕ) (t : Option Timing) → i < length gs → retimed_at (retimed_at gs i t) i (get_or gs i no_gate).timing ≡ gs
timing_back gs i t h =
    ap (λ g. set (retimed_at gs i t) i (retimed g (get_or gs i no_gate).timing)) (get_or-set_same gs i (retimed (get_or gs i no_gate) t) no_gate h)
    ∙ (set-set gs i (retimed (get_or gs i no_gate) t) (get_or gs i no_gate) ∙ set-get_or gs i no_gate)
