-- The words of a register's wires: one that is joined to, and those that a blank register has. Assumes nothing.
use Rattle.std.proofs.Common.{◌≡◌, ℕ, ◌+◌, ◌*◌, ◌%◌, ◌^◌, ◌<◌, cond, ltb, List, length, get_or, set, bit_xor, inl, inr, arith, eq-eqb, ne_eqb, ◌∙◌, refl}
use mathlib.Core.Path.{fun_ext}
use lib.Bits.{xor_comm}
use Rattle.std.proofs.lemmas.Bool.{cases_eq, cases_lt, lt-ltb, le-ltb}
use Rattle.std.proofs.lemmas.List.{get_or-set_same, get_or-set_other, get_or_past}
use Rattle.std.proofs.lemmas.List.Edits.{fill_by_more}
use Rattle.std.proofs.lemmas.Nat.{one_shl, xor_lt}
use Rattle.std.proofs.Math.Pow.{pow-lt}
use Rattle.register.specs.Numbers.{write}
use Rattle.parity.specs.Parities.{joined, blank_state}

word_at : (ws : List ℕ) (v t w : ℕ) → t < length ws → get_or (set ws t (bit_xor (get_or ws t 0) v)) w 0 ≡ write t (bit_xor v (get_or ws t 0)) (λ u. get_or ws u 0) w
word_at ws v t w h =
    elim (cases_eq w t) [
      | inl e ↦ rw (e, eq-eqb t t refl) (get_or-set_same ws t (bit_xor (get_or ws t 0) v) 0 h ∙ xor_comm (get_or ws t 0) v)
      | inr ne ↦ rw (ne_eqb w t ne) (get_or-set_other ws t w (bit_xor (get_or ws t 0) v) 0 ne)
    ]

-- a word is joined to
pub words_joined : (n : ℕ) (ws : List ℕ) (v t : ℕ) → t < length ws
    → record { wires = n; words = λ w. get_or (set ws t (bit_xor (get_or ws t 0) v)) w 0 } ≡ joined v t (record { wires = n; words = λ w. get_or ws w 0 })
words_joined n ws v t h = λ i. record { wires = n; words = fun_ext (λ w. word_at ws v t w h) i }

-- one more wire is set to itself
pub words_more : (ws : List ℕ) (w : ℕ) → w < 32 → length ws ≡ 32 → ((k : ℕ) → k < w → get_or ws k 0 ≡ 2 ^ k)
    → (k : ℕ) → k < w + 1 → get_or (set ws w (1 * 2 ^ w % 2 ^ 64)) k 0 ≡ 2 ^ k
words_more ws w h l f =
    let v : 1 * 2 ^ w % 2 ^ 64 ≡ 2 ^ w = one_shl w 64 (omega arith) in
    rw v (fill_by_more (λ k. 2 ^ k) ws w 0 (omega arith) f)

-- all are
pub words_blank : (n : ℕ) (ws : List ℕ) → length ws ≡ 32 → ((k : ℕ) → k < 32 → get_or ws k 0 ≡ 2 ^ k) → record { wires = n; words = λ w. get_or ws w 0 } ≡ blank_state n
words_blank n ws l f = λ i. record { wires = n; words = fun_ext (λ w. at w) i }
  where
    at : (w : ℕ) → get_or ws w 0 ≡ cond (ltb w 32) (2 ^ w) 0
    at w = elim (cases_lt w 32) [ inl h ↦ rw (lt-ltb w 32 h) (f w h) | inr h ↦ rw (le-ltb w 32 h) (get_or_past ws w 0 (omega arith)) ]

-- one bit in a word
pub one_word : (w : ℕ) → w < 32 → 1 * 2 ^ w % 2 ^ 64 ≡ 2 ^ w
one_word w h = one_shl w 64 (omega arith)

-- words stay below the bit after the mark
pub small_joined : (ws : List ℕ) (v t : ℕ) → t < length ws → v < 2 ^ 33 → ((w : ℕ) → get_or ws w 0 < 2 ^ 33) → (w : ℕ) → get_or (set ws t (bit_xor (get_or ws t 0) v)) w 0 < 2 ^ 33
small_joined ws v t h l f w =
    elim (cases_eq w t) [
      | inl e ↦ rw (e, get_or-set_same ws t (bit_xor (get_or ws t 0) v) 0 h) (xor_lt 33 (get_or ws t 0) v (f t) l)
      | inr ne ↦ rw (get_or-set_other ws t w (bit_xor (get_or ws t 0) v) 0 ne) (f w)
    ]

pub small_blank : (ws : List ℕ) → length ws ≡ 32 → ((k : ℕ) → k < 32 → get_or ws k 0 ≡ 2 ^ k) → (w : ℕ) → get_or ws w 0 < 2 ^ 33
small_blank ws l f w = elim (cases_lt w 32) [
  | inl h ↦ rw (f w h) (let m : w < 33 = omega arith in pow-lt m)
  | inr h ↦ rw (get_or_past ws w 0 (omega arith)) (omega arith)
]
