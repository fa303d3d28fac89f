-- The laws of single bits. Assumes nothing.
use Rattle.std.proofs.Common.{◌≡◌, ℕ, zero, suc, ◌+◌, ◌*◌, ◌/◌, ◌%◌, ◌^◌, ◌<◌, ◌≤◌, true, false, not, ◌||◌, eqb, ◌≢◌, ◌⊎◌, Decides, sym, ap, ◌∙◌, inl, inr, mod-lt, pow-suc, div-add-mod', div-one, shr-shr, arith}
use native.Mathlib.Nat.{pow-zero}
use Rattle.std.specs.Int.{w64}
use lib.Bits.{bit_and, bit_or}
use Rattle.std.proofs.lemmas.Nat.{and_le_l}
use Rattle.std.proofs.lemmas.Nat.Bits.{bit_at-lt, bit_at-zero, bit_at_above, bit_at_and, bit_at_set_same, bit_at_set_other}
use Rattle.std.proofs.lemmas.Bool.{cases_eq, ne_eqb, not_from_false}
use Rattle.std.proofs.lemmas.Bool.Decides.{nat_tests}
use Rattle.bits.specs.Bits.{bit}

-- a number has no bit from its width on
pub bit_past : (n w k : ℕ) → n < 2 ^ w → w ≤ k → bit n k ≡ false
bit_past n w k h l = grind (arith, nat_tests, bit_at_above n w k h l)

-- likewise a word
pub word_past : (n k : ℕ) → n < 2 ^ 64 → 64 ≤ k → bit n k ≡ false
word_past n k h l = bit_past n 64 k h l

-- a word with one bit more
pub bit-set : (n k : ℕ) → k < 64 → (x : ℕ) → bit (bit_or n (1 * 2 ^ k % 2 ^ 64)) x ≡ (eqb x k || bit n x)
bit-set n k h x =
    elim (cases_eq x k) [
      | inl e ↦ let s = bit_at_set_same w64 n k h in grind (arith, nat_tests)
      | inr ne ↦ let s = bit_at_set_other w64 n k h x ne in grind (arith, nat_tests)
    ]

two_cases : (n : ℕ) → n < 2 → (n ≡ 0) ⊎ (n ≡ 1)
two_cases n h = elim (cases_eq n 0) [ inl e ↦ inl e | inr ne ↦ inr (omega arith) ]

-- a number that is not 0 has some bit
pub some_bit : (w n : ℕ) → n < 2 ^ w → n ≢ 0 → (k : ℕ) × (bit n k ≡ true)
some_bit zero n h ne = absurd (ne (let e = pow-zero 2 in omega arith))
some_bit (suc w) n h ne =
    elim (two_cases (n % 2) (mod-lt n {m = 2} (omega arith))) [
      | inl even ↦
          let p = div-add-mod' n 2 in
          let half : n / 2 ≢ 0 = λ e. ne (omega arith) in
          let less : n / 2 < 2 ^ w = let q = pow-suc 2 w in omega arith in
          let r = some_bit w (n / 2) less half in
          (1 + r.0, ap (λ d. eqb (d % 2) 1) (sym (shr-shr n 1 r.0)) ∙ r.1)
      | inr odd ↦ (0, ap (λ d. eqb (d % 2) 1) (div-one n) ∙ ap (λ d. eqb d 1) odd)
    ]

common : (a b k : ℕ) → bit (bit_and a b) k ≡ true → (bit a k ≡ true) × (bit b k ≡ true)
common a b k e = grind (arith, nat_tests, bit_at_and a b k, bit_at-lt a k, bit_at-lt b k)

some : (a b k : ℕ) → bit a k ≡ true → bit b k ≡ true → bit_and a b ≡ 0 → ⊥
some a b k s t z = grind (arith, nat_tests, bit_at_and a b k, bit_at-zero k)

-- two numbers of w bits have a common bit exactly where `&` of them is not 0
pub meets_decides : (w a b : ℕ) → a < 2 ^ w → Decides (not (eqb (bit_and a b) 0)) ((k : ℕ) × (bit a k ≡ true) × (bit b k ≡ true))
meets_decides w a b h = (
  λ e.
      let ne : bit_and a b ≢ 0 = grind (arith, nat_tests) in
      let s = some_bit w (bit_and a b) (omega (arith, and_le_l a b)) ne in
      let both = common a b s.0 s.1 in
      (s.0, both.0, both.1),
  λ p. not_from_false (eqb (bit_and a b) 0) (ne_eqb (bit_and a b) 0 (some a b p.0 p.1 p.2)),
)

-- likewise two words
pub words_meet : (a b : ℕ) → a < 2 ^ 64 → Decides (not (eqb (bit_and a b) 0)) ((k : ℕ) × (bit a k ≡ true) × (bit b k ≡ true))
words_meet a b h = meets_decides 64 a b h
