-- The phase register's states and what actions do to them. Assumes nothing.
use Rattle.std.specs.Prelude.{ℕ, ◌+◌, ◌%◌, Bool, true, false, cond, nat_le}
use Rattle.circuit.specs.declared.action.Plain.{Plain}
use Rattle.circuit.specs.declared.action.Single.{Single}
use Rattle.circuit.specs.declared.action.Action.{Action}
use Rattle.register.specs.declared.rows.PlainRow.{PlainRow}
use Rattle.bits.specs.Bits.{bit}
use Rattle.matrices.specs.Indices.{indices}
use Rattle.matrices.specs.Assignments.{flip_if, controlled}

-- a number of wires, an assignment of a bit to each, as the number whose bit w is that of wire w, and one turn
pub record PhaseState : Type 0 where
  pub wires : ℕ
  pub bits : ℕ
  pub turn : ℕ

-- a plain gate acts by its row: it turns by what the row says of the wire's bit, and flips the wire if the row flips
abbrev pub plain_acted : PlainRow → ℕ → PhaseState → PhaseState
plain_acted r a s = record {
  wires = s.wires;
  bits = flip_if indices r.flips a s.bits;
  turn = (s.turn + cond (bit s.bits a) r.turn1 r.turn0) % 8;
}

-- a CNOT flips its target where its control is 1
abbrev pub cnot_acted : ℕ → ℕ → PhaseState → PhaseState
cnot_acted a b s = record { wires = s.wires; bits = controlled indices a b s.bits; turn = s.turn }

-- what an action does, where the plain gates have these rows; a read nothing, and H is not taken
abbrev pub phase_acted : (Plain → PlainRow) → Action → PhaseState → PhaseState
phase_acted rows (Action.One Single.H a) s = s
phase_acted rows (Action.One (Single.Plain p) a) s = plain_acted (rows p) a s
phase_acted rows (Action.One Single.Read a) s = s
phase_acted rows (Action.Cnot a b) s = cnot_acted a b s

-- every kind but H
abbrev pub phase_takes : Single → Bool
phase_takes Single.H = false
phase_takes (Single.Plain p) = true
phase_takes Single.Read = true

-- the wires of a register that is made: none where too many are asked for
abbrev pub wires_made : ℕ → ℕ
wires_made n = cond (nat_le n 64) n 0

-- all 0, and no turn
abbrev pub blank_state : ℕ → PhaseState
blank_state n = record { wires = n; bits = 0; turn = 0 }

-- what is told of a wire: its bit
abbrev pub bit_numbers : PhaseState → ℕ → ℕ
bit_numbers s w = cond (bit s.bits w) 1 0
