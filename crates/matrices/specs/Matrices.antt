-- The matrices of the kinds, and what multiplying a vector by one is. Assumes nothing.
use Rattle.std.specs.Prelude.{ℕ, Bool, true, false, cond, ◌&&◌}
use Rattle.std.specs.Bool.{beq}
use Rattle.circuit.specs.declared.action.Plain.{Plain}
use Rattle.circuit.specs.declared.action.Single.{Single}
use Rattle.circuit.specs.declared.action.Action.{Action}
use Rattle.register.specs.declared.rows.PlainRow.{PlainRow}
use Rattle.matrices.specs.declared.Amplitude.{Amplitude}
use Rattle.matrices.specs.Numbers.{nought, unit, plus, times, omega_power}
use Rattle.matrices.specs.Assignments.{Assignments, differ, with_bit}

-- a matrix on one wire, by the row's bit and the column's
abbrev pub Matrix : Type 0
Matrix = Bool → Bool → Amplitude

-- a matrix on two wires, by the row's bits and the column's
abbrev pub Matrix2 : Type 0
Matrix2 = Bool → Bool → Bool → Bool → Amplitude

-- a plain gate of any row has ω to the turn from the column's bit where the bits differ as it flips, and 0 elsewhere
abbrev pub plain_matrix : PlainRow → Matrix
plain_matrix r out from = cond (beq (differ out from) r.flips) (omega_power (cond from r.turn1 r.turn0)) nought

-- 1 1, 1 −1: H without the factor of one over the root of two, for which the count stands
abbrev pub h_matrix : Matrix
h_matrix out from = omega_power (cond (out && from) 4 0)

-- 1 0, 0 1
abbrev pub identity_matrix : Matrix
identity_matrix out from = cond (beq out from) unit nought

-- control and target of the row, then of the column: 1 where the target is the exclusive or of both
abbrev pub cnot_matrix : Matrix2
cnot_matrix c t c' t' = cond (beq c c' && beq t (differ c' t')) unit nought

-- the matrix of a kind, where the plain gates have these rows
abbrev pub single_matrix : (Plain → PlainRow) → Single → Matrix
single_matrix rows Single.H = h_matrix
single_matrix rows (Single.Plain p) = plain_matrix (rows p)
single_matrix rows Single.Read = identity_matrix

module _ (W : Assignments) where
  -- a number for each assignment
  abbrev pub Vector : Type 0
  Vector = W.At → Amplitude

  -- the matrix at wire a, times the vector
  abbrev pub times_vector : Matrix → ℕ → Vector → Vector
  times_vector M a v i =
      let row = M (W.bit a i) in
      plus (times (row false) (v (with_bit W a false i))) (times (row true) (v (with_bit W a true i)))

  -- the matrix at wires a and b, times the vector
  abbrev pub times_vector2 : Matrix2 → ℕ → ℕ → Vector → Vector
  times_vector2 M a b v i =
      let row = M (W.bit a i) (W.bit b i) in
      plus (plus (times (row false false) (v (with_bit W a false (with_bit W b false i)))) (times (row false true) (v (with_bit W a false (with_bit W b true i)))))
      (plus (times (row true false) (v (with_bit W a true (with_bit W b false i)))) (times (row true true) (v (with_bit W a true (with_bit W b true i)))))

  -- the matrix of an action at its wires, times the vector
  abbrev pub multiplied : (Plain → PlainRow) → Action → Vector → Vector
  multiplied rows (Action.One k a) v = times_vector (single_matrix rows k) a v
  multiplied rows (Action.Cnot a b) v = times_vector2 cnot_matrix a b v
