-- Actions on blank registers. Assumes nothing.
use Rattle.std.specs.Prelude.{ℕ, List, [], ◌∷◌, map, None, Option}
use Rattle.circuit.specs.declared.action.Plain.{Plain}
use Rattle.circuit.specs.declared.action.Single.{Single}
use Rattle.circuit.specs.declared.action.Action.{Action}
use Rattle.circuit.specs.declared.operation.Operation.{Operation}
use Rattle.circuit.specs.Operations.{h_count}
use Rattle.refusal.specs.declared.Refusal.{Refusal}
use Rattle.register.specs.Rows.{plain_row}
use Rattle.register.specs.Models.{Model, after}
use Rattle.register.specs.Runs.{capacity, running_refusal, alone}
use Rattle.matrices.specs.declared.Amplitude.{Amplitude}
use Rattle.amplitude.specs.Models as Amplitudes
use Rattle.phase.specs.Phases.{PhaseState, blank_state as blank_phases}
use Rattle.phase.specs.Models.{phase_model}
use Rattle.parity.specs.Parities.{blank_state as blank_parities, parity_model}

-- an action as an operation
abbrev operation : Action → Operation
operation x = record { start = 0; length = 0; action = x; gate = 0 }

-- a gate of this kind on wire 0, and a plain one
abbrev pub one : Single → Action
one k = Action.One k 0

abbrev pub plain : Plain → Action
plain p = one (Single.Plain p)

-- the state after actions
abbrev pub acted_all : (M : Model) → List Action → M.State → M.State
acted_all M xs s = after M (map operation xs) s

-- how many H they are
abbrev pub h_among : List Action → ℕ
h_among xs = h_count (map operation xs)

-- the amplitudes at 0 and 1 of one blank wire after actions
abbrev pub amplitudes_after : List Action → List Amplitude
amplitudes_after xs = map (acted_all (Amplitudes.amplitude_model plain_row) xs (Amplitudes.blank_state 1)).vector (0 ∷ 1 ∷ [])

-- one blank wire of a phase register after actions
abbrev pub phase_after : List Action → PhaseState
phase_after xs = acted_all phase_model xs (blank_phases 1)

-- what a parity register of two blank wires tells after actions
abbrev pub told_after : List Action → List ℕ
told_after xs = map (acted_all parity_model xs (blank_parities 2)).words (0 ∷ 1 ∷ [])

-- what one more H is refused for on an amplitude register of one wire, where this many were done
abbrev pub one_more_h : ℕ → Option Refusal
one_more_h done = running_refusal (capacity (Amplitudes.amplitude_model plain_row) 60 (Amplitudes.blank_state 1) done None) (alone (one Single.H))
