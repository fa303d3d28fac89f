-- What actions do to vectors, without matrices: each entry from the one or two that it takes. Assumes nothing.
use Rattle.std.specs.Prelude.{ℕ, Bool, true, false, cond}
use Rattle.circuit.specs.declared.action.Plain.{Plain}
use Rattle.circuit.specs.declared.action.Single.{Single}
use Rattle.circuit.specs.declared.action.Action.{Action}
use Rattle.register.specs.declared.rows.PlainRow.{PlainRow}
use Rattle.matrices.specs.declared.Amplitude.{Amplitude}
use Rattle.matrices.specs.Numbers.{plus, turned}
use Rattle.matrices.specs.Assignments.{Assignments, differ, flip_if}
use Rattle.matrices.specs.Matrices.{Vector}

-- what is done to one or two wires: a plain gate by its row, H, the flip of a target, nothing
pub data Gate : Type 0 where
  plain : PlainRow → Gate
  hadamard flip idle : Gate

abbrev pub gate_of : (Plain → PlainRow) → Single → Gate
gate_of rows Single.H = hadamard
gate_of rows (Single.Plain p) = plain (rows p)
gate_of rows Single.Read = idle

-- one or two terms, each with its turn and the wires, of two, that it flips
pub data Terms : Type 0 where
  one : ℕ → Bool → Bool → Terms
  two : ℕ → Bool → Bool → ℕ → Bool → Bool → Terms

-- the terms of an entry, by the bits of its wires
abbrev pub terms : Gate → Bool → Bool → Terms
terms (plain r) x y = one (cond (differ r.flips x) r.turn1 r.turn0) r.flips false
terms hadamard true y = two 0 true false 4 false false
terms hadamard false y = two 0 false false 0 true false
terms flip x y = one 0 false x
terms idle x y = one 0 false false

-- their sum
abbrev pub value : Terms → (Bool → Bool → Amplitude) → Amplitude
value (one n f g) V = turned n (V f g)
value (two n f g m h k) V = plus (turned n (V f g)) (turned m (V h k))

module _ (W : Assignments) where
  -- the gate at wires a and b
  abbrev pub applied : Gate → ℕ → ℕ → Vector W → Vector W
  applied g a b v i = value (terms g (W.bit a i) (W.bit b i)) (λ f h. v (flip_if W f a (flip_if W h b i)))

  -- the action, where the plain gates have these rows
  abbrev pub acted : (Plain → PlainRow) → Action → Vector W → Vector W
  acted rows (Action.One k a) v = applied (gate_of rows k) a a v
  acted rows (Action.Cnot a b) v = applied flip a b v
