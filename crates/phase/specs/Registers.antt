-- The state that a phase register is in. Assumes nothing.
use Rattle.phase.specs.declared.phase_register.PhaseRegister.{PhaseRegister}
use Rattle.phase.specs.Phases.{PhaseState}

-- its number of wires, their bits, and its turn
abbrev pub phase_state : PhaseRegister → PhaseState
phase_state r = record { wires = r.wires; bits = r.bits; turn = r.turn }
