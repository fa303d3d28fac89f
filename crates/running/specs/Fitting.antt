-- The operations that do not fit a register. Assumes nothing.
use Rattle.std.specs.Prelude.{ℕ, Bool, not, List, Option}
use Rattle.circuit.specs.declared.action.Single.{Single}
use Rattle.circuit.specs.declared.operation.Operation.{Operation}
use Rattle.refusal.specs.declared.Refusal.{Refusal}
use Rattle.refusal.specs.Refusals.{or_else}
use Rattle.register.specs.Models.{is_taken}
use Rattle.register.specs.Runs.{is_off_wires, at_first}

-- the first operation that is not on n wires, or else the first of a kind that is not taken
abbrev pub unfit : ℕ → (Single → Bool) → List Operation → Option Refusal
unfit n takes os = or_else (at_first Refusal.NotOnWires (λ o. is_off_wires n o.action) 0 os) (at_first Refusal.KindNotTaken (λ o. not (is_taken takes o.action)) 0 os)
