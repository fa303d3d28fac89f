-- What gates do to the two amplitudes whose indices differ at one wire. Assumes nothing.
use Rattle.std.specs.Prelude.{◌≡◌, ◌≢◌, ℕ, Bool, true, cond, nat_lt, List, slice_index_or, Option, Some, None}
use Rattle.circuit.specs.declared.action.Single.{Single}
use Rattle.circuit.specs.declared.action.Action.{Action}
use Rattle.register.specs.Rows.{plain_row}
use Rattle.matrices.specs.declared.Amplitude.{Amplitude}
use Rattle.matrices.specs.Numbers.{nought}
use Rattle.matrices.specs.Assignments.{differ}
use Rattle.matrices.specs.Indices.{indices, flipped}
use Rattle.matrices.specs.Gates.{Gate, Gate.plain, Gate.hadamard, Gate.flip, terms, value, applied}
use Rattle.bits.specs.Bits.{bit}
use Rattle.amplitude.specs.Sizes.{vector}
use Rattle.amplitude.specs.declared.pair.PairGate.{PairGate}

-- the gate on wire w, and the two wires that it is applied to
abbrev pub gate_of : PairGate → Gate
gate_of (PairGate.Plain r) = plain r
gate_of PairGate.H = hadamard
gate_of (PairGate.Flip c) = flip

abbrev pub first_of : PairGate → ℕ → ℕ
first_of (PairGate.Plain r) w = w
first_of PairGate.H w = w
first_of (PairGate.Flip c) w = c

-- the vector after the gate on wire w
abbrev pub applied_to : PairGate → ℕ → (ℕ → Amplitude) → ℕ → Amplitude
applied_to g w = applied indices (gate_of g) (first_of g w) w

-- the entry at an index, by its own amplitude and that of the index with wire w flipped; up: its bit of wire w; on: that of the control
abbrev pub entry : PairGate → Bool → Bool → Amplitude → Amplitude → Amplitude
entry (PairGate.Plain r) on up here there = value (terms (plain r) up up) (λ f h. cond (differ f h) there here)
entry PairGate.H on up here there = value (terms hadamard up up) (λ f h. cond (differ f h) there here)
entry (PairGate.Flip c) on up here there = cond on there here

-- whether the control of the gate is 1 at an index; true where it has none
abbrev pub is_on : PairGate → ℕ → Bool
is_on (PairGate.Plain r) i = true
is_on PairGate.H i = true
is_on (PairGate.Flip c) i = bit i c

-- a control, where the gate has one, is not the wire
abbrev pub Apart : PairGate → ℕ → Type 0
Apart (PairGate.Plain r) w = Unit {0}
Apart PairGate.H w = Unit {0}
Apart (PairGate.Flip c) w = c ≢ w

-- of an index and the one with wire w flipped, that where the wire is 0
abbrev pub low_index : ℕ → ℕ → ℕ
low_index w i = cond (bit i w) (flipped w i) i

-- the places ys have the gate done on all pairs whose lower index is below i, and hold what xs held elsewhere
abbrev pub DoneBelow : PairGate → ℕ → ℕ → ℕ → List Amplitude → List Amplitude → Type 0
DoneBelow g n w i xs ys = (k : ℕ) → slice_index_or ys k nought ≡ cond (nat_lt (low_index w k) i) (applied_to g w (vector n xs) k) (slice_index_or xs k nought)

-- what an action does to pairs, and at which wire; a read does nothing
abbrev pub pair_gate : Action → Option (PairGate × ℕ)
pair_gate (Action.One Single.H a) = Some (PairGate.H, a)
pair_gate (Action.One (Single.Plain p) a) = Some (PairGate.Plain (plain_row p), a)
pair_gate (Action.One Single.Read a) = None
pair_gate (Action.Cnot a b) = Some (PairGate.Flip a, b)
