-- The state that a parity register is in. Assumes nothing.
use Rattle.std.specs.Prelude.{slice_index}
use Rattle.parity.specs.declared.parity_register.ParityRegister.{ParityRegister}
use Rattle.parity.specs.Parities.{ParityState}

-- its number of wires, and the word of each
abbrev pub parity_state : ParityRegister → ParityState
parity_state r = record { wires = r.wires; words = λ w. slice_index r.words w }
