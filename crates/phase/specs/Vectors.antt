-- The vector that a phase register's state stands for, and that acting is multiplying by matrices. Assumes nothing.
use Rattle.std.specs.Prelude.{◌≡◌}
use Rattle.circuit.specs.declared.action.Plain.{Plain}
use Rattle.circuit.specs.declared.action.Action.{Action}
use Rattle.register.specs.declared.rows.PlainRow.{PlainRow}
use Rattle.register.specs.Models.{Fit}
use Rattle.matrices.specs.Indices.{indices}
use Rattle.matrices.specs.Matrices.{Vector, multiplied}
use Rattle.basis.specs.IndexVectors.{index_vector}
use Rattle.phase.specs.Phases.{PhaseState, phase_acted, phase_takes}

-- ω to the turn at the index of the bits, and 0 elsewhere
abbrev pub phase_vector : PhaseState → Vector indices
phase_vector s = index_vector s.turn s.bits

-- the vector after an action is that before, multiplied by the action's matrix, at any rows of the plain gates
abbrev pub PhaseMultiplies : Type 0
PhaseMultiplies = (rows : Plain → PlainRow) (x : Action) (s : PhaseState) → Fit s.wires phase_takes x → phase_vector (phase_acted rows x s) ≡ multiplied indices rows x (phase_vector s)
