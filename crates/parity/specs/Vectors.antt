-- What a parity register's state says of its wires for each start, and that acting is multiplying by matrices. Assumes nothing.
use Rattle.std.specs.Prelude.{◌≡◌, ℕ, zero, suc, ◌^◌, ◌<◌, ◌≤◌, Bool, false, ◌&&◌}
use Rattle.circuit.specs.declared.action.Action.{Action}
use Rattle.register.specs.Rows.{plain_row}
use Rattle.register.specs.Models.{Fit}
use Rattle.bits.specs.Bits.{bit}
use Rattle.matrices.specs.Assignments.{differ, flip_if}
use Rattle.matrices.specs.Indices.{indices}
use Rattle.matrices.specs.Matrices.{Vector, multiplied}
use Rattle.basis.specs.IndexVectors.{index_vector}
use Rattle.parity.specs.Parities.{ParityState, parity_acted, parity_takes, blank_state}

-- the exclusive or of the first n
abbrev pub parity_of : (ℕ → Bool) → ℕ → Bool
parity_of g zero = false
parity_of g (suc n) = differ (g n) (parity_of g n)

-- the bit of a wire with this word, where the first n starting wires have the bits of the number `start`: the exclusive or of those in its set, and flipped if it is marked
abbrev pub word_bit : ℕ → ℕ → ℕ → Bool
word_bit n start word = differ (bit word 32) (parity_of (λ v. bit word v && bit start v) n)

-- the number whose first n bits are these
abbrev pub number_of : (ℕ → Bool) → ℕ → ℕ
number_of g zero = 0
number_of g (suc n) = flip_if indices (g n) n (number_of g n)

-- the bits of all wires, as a number
abbrev pub end_index : ParityState → ℕ → ℕ
end_index s start = number_of (λ w. word_bit s.wires start (s.words w)) s.wires

-- 1 at that index, and 0 elsewhere
abbrev pub parity_vector : ParityState → ℕ → Vector indices
parity_vector s start = index_vector 0 (end_index s start)

pub record ParityMultiplies : Type 0 where
  -- a blank register is at the start itself
  pub starts : (n start : ℕ) → n ≤ 32 → start < 2 ^ n → end_index (blank_state n) start ≡ start
  -- for each start, the vector after an action is that before, multiplied by the action's matrix
  pub multiplies : (x : Action) (s : ParityState) (start : ℕ) → s.wires ≤ 32 → Fit s.wires parity_takes x
      → parity_vector (parity_acted x s) start ≡ multiplied indices plain_row x (parity_vector s start)
