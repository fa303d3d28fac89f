-- The numbers that a phase register tells change by the actions alone. Assumes nothing.
use Rattle.std.proofs.Common.{◌≡◌, ℕ, Bool, true, false, not, cond, bit_xor, refl, ap, ◌∙◌, eq-eqb, ne_eqb}
use Rattle.circuit.specs.declared.action.Single.{Single}
use Rattle.circuit.specs.declared.action.Action.{Action}
use Rattle.register.specs.Rows.{plain_row}
use Rattle.register.specs.Numbers.{marked, renumbered, Renumbers, write}
use Rattle.bits.specs.Bits.{bit}
use Rattle.matrices.specs.Indices.{indices, bit_same}
use Rattle.matrices.specs.Assignments.{flip_if}
use Rattle.matrices.proofs.Swaps.{by_eq, bit_move}
use Rattle.phase.specs.Phases.{PhaseState, phase_acted, bit_numbers}
use Rattle.phase.specs.Models.{phase_model}
use Rattle.phase.specs.Registers.{phase_state}

abbrev number : Bool → ℕ
number x = cond x 1 0

number_flip : (x y : Bool) → number (cond x (not y) y) ≡ bit_xor (number x) (number y)
number_flip true true = refl
number_flip true false = refl
number_flip false true = refl
number_flip false false = refl

bit_if : (x : Bool) (b i : ℕ) → bit (flip_if indices x b i) b ≡ cond x (not (bit i b)) (bit i b)
bit_if true b i = bit_same b i
bit_if false b i = refl

-- wire b flipped if x
flipped_number : (x : Bool) (b i w : ℕ) → number (bit (flip_if indices x b i) w) ≡ write b (bit_xor (number x) (number (bit i b))) (λ v. number (bit i v)) w
flipped_number x b i w =
    by_eq w b
    (λ e. rw (e, eq-eqb b b refl) (ap number (bit_if x b i) ∙ number_flip x (bit i b)))
    (λ ne. rw (ne_eqb w b ne) (ap number (bit_move indices x w b i ne)))

-- a mark joined to wire a if f
flipped_mark : (f : Bool) (a i w : ℕ) → number (bit (flip_if indices f a i) w) ≡ marked f 1 a (λ v. number (bit i v)) w
flipped_mark true a i w = flipped_number true a i w
flipped_mark false a i w = refl

acted_number : (x : Action) (s : PhaseState) (w : ℕ) → bit_numbers (phase_acted plain_row x s) w ≡ renumbered 1 x (bit_numbers s) w
acted_number (Action.One Single.H a) s w = refl
acted_number (Action.One (Single.Plain p) a) s w = flipped_mark (plain_row p).flips a s.bits w
acted_number (Action.One Single.Read a) s w = refl
acted_number (Action.Cnot a b) s w = flipped_number (bit s.bits a) b s.bits w

pub phase_tells : Renumbers phase_model phase_state 1 (λ s. bit_numbers (phase_state s))
phase_tells x y a f e w h = ap (λ s. bit_numbers s w) e ∙ acted_number a (phase_state x) w
