-- Acting on a parity register is multiplying, for each start, its vector by the action's matrix. Assumes nothing.
use Rattle.std.proofs.Common.{◌≡◌, ℕ, ◌+◌, ◌^◌, ◌<◌, ◌≤◌, Bool, true, false, cond, ltb, bit_xor, refl, sym, ap, ap₂, ◌∙◌, inl, inr, eq-eqb, ne_eqb, arith}
use Rattle.std.proofs.lemmas.Bool.{false≢true, cases_lt, lt-ltb, le-ltb}
use Rattle.circuit.specs.declared.action.Plain.{Plain}
use Rattle.circuit.specs.declared.action.Single.{Single}
use Rattle.circuit.specs.declared.action.Action.{Action}
use Rattle.circuit.specs.Actions.{is_h}
use Rattle.bits.specs.Bits.{bit}
use Rattle.bits.proofs.Bits.{bit_past}
use Rattle.register.specs.Rows.{plain_row}
use Rattle.register.specs.Models.{is_taken, Fit}
use Rattle.register.specs.Numbers.{write}
use Rattle.matrices.specs.Assignments.{flip_if}
use Rattle.matrices.specs.Indices.{indices}
use Rattle.matrices.specs.Basis.{moved, turn_from}
use Rattle.basis.specs.IndexVectors.{index_vector}
use Rattle.basis.proofs.IndexVectors.{vector_multiplied}
use Rattle.parity.specs.Parities.{ParityState, parity_acted, parity_takes, blank_state, joined, mark_of}
use Rattle.parity.specs.Vectors.{word_bit, end_index, parity_vector, ParityMultiplies}
use Rattle.parity.proofs.Ends.{word_bit_xored, mark_bit, alone_bit, bit_made, same_bits, number_flipped}

-- a word that is joined to a wire's flips it where the word's bit is 1
end_joined : (s : ParityState) (start v a : ℕ) → a < s.wires → end_index (joined v a s) start ≡ flip_if indices (word_bit s.wires start v) a (end_index s start)
end_joined s start v a l =
    number_flipped (λ w. word_bit s.wires start (s.words w)) (λ w. word_bit s.wires start (write a (bit_xor v (s.words a)) s.words w)) (word_bit s.wires start v) s.wires a l
    (ap (λ t. word_bit s.wires start (cond t (bit_xor v (s.words a)) (s.words a))) (eq-eqb a a refl) ∙ word_bit_xored s.wires start v (s.words a))
    (λ w ne. ap (λ t. word_bit s.wires start (cond t (bit_xor v (s.words a)) (s.words w))) (ne_eqb w a ne))

-- the bit of a wire at the end
end_bit : (s : ParityState) (start a : ℕ) → a < s.wires → bit (end_index s start) a ≡ word_bit s.wires start (s.words a)
end_bit s start a l = bit_made (λ w. word_bit s.wires start (s.words w)) s.wires a ∙ ap (λ t. cond t (word_bit s.wires start (s.words a)) false) (lt-ltb a s.wires l)

-- the vector after an action, by where its index moves
acted_vector : (x : Action) (s : ParityState) (start : ℕ) → s.wires ≤ 32 → Fit s.wires parity_takes x
    → parity_vector (parity_acted x s) start ≡ index_vector (0 + turn_from indices plain_row x (end_index s start)) (moved indices plain_row x (end_index s start))
acted_vector (Action.One Single.H a) s start h f = absurd (false≢true f.taken)
acted_vector (Action.One (Single.Plain Plain.X) a) s start h f =
    ap₂ index_vector (no_turn (bit (end_index s start) a)) (end_joined s start mark_of a f.on_wires.within.0 ∙ ap (λ x. flip_if indices x a (end_index s start)) (mark_bit s.wires start h))
  where
    no_turn : (x : Bool) → 0 ≡ 0 + cond x 0 0
    no_turn true = refl
    no_turn false = refl
acted_vector (Action.One (Single.Plain Plain.Y) a) s start h f = absurd (false≢true f.taken)
acted_vector (Action.One (Single.Plain Plain.Z) a) s start h f = absurd (false≢true f.taken)
acted_vector (Action.One (Single.Plain Plain.S) a) s start h f = absurd (false≢true f.taken)
acted_vector (Action.One (Single.Plain Plain.T) a) s start h f = absurd (false≢true f.taken)
acted_vector (Action.One Single.Read a) s start h f = refl
acted_vector (Action.Cnot a b) s start h f =
    ap (index_vector 0) (end_joined s start (s.words a) b f.on_wires.within.1.0 ∙ ap (λ x. flip_if indices x b (end_index s start)) (sym (end_bit s start a f.on_wires.within.0)))

no_h : (x : Action) → is_taken parity_takes x ≡ true → is_h x ≡ false
no_h (Action.One Single.H a) e = absurd (false≢true e)
no_h (Action.One (Single.Plain p) a) e = refl
no_h (Action.One Single.Read a) e = refl
no_h (Action.Cnot a b) e = refl

-- a blank register is at its start
blank_start : (n start : ℕ) → n ≤ 32 → start < 2 ^ n → end_index (blank_state n) start ≡ start
blank_start n start h l =
    same_bits (end_index (blank_state n) start) start (λ i. bit_made (λ w. word_bit n start ((blank_state n).words w)) n i ∙ at i)
  where
    at : (i : ℕ) → cond (ltb i n) (word_bit n start ((blank_state n).words i)) false ≡ bit start i
    at i = elim (cases_lt i n) [
      | inl k ↦
          ap (λ t. cond t (word_bit n start ((blank_state n).words i)) false) (lt-ltb i n k) ∙ ap (λ t. word_bit n start (cond t (2 ^ i) 0)) (lt-ltb i 32 (omega arith)) ∙ alone_bit n start i h k
      | inr k ↦ ap (λ t. cond t (word_bit n start ((blank_state n).words i)) false) (le-ltb i n k) ∙ sym (bit_past start n i l k)
    ]

pub parity_multiplies : ParityMultiplies
parity_multiplies = record {
  starts = blank_start;
  multiplies = λ x s start h f. acted_vector x s start h f ∙ vector_multiplied plain_row x (no_h x f.taken) f.on_wires.distinct 0 (end_index s start);
}
