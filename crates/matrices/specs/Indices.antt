-- Assignments as numbers: bit w of the index is wire w. Assumes nothing.
use Rattle.std.specs.Prelude.{◌≡◌, ℕ, zero, suc, ◌+◌, ◌-◌, ◌/◌, ◌%◌, ◌^◌, ◌<◌, not, ◌≢◌, ◌==◌, bit_xor, nat_eq, refl}
use Rattle.std.proofs.Common.{sym, ap, ◌∙◌, arith, pow-suc, pow_pos, pow-add}
use Rattle.std.proofs.Math.Nat.{div-eq_of_lt, div_self, mul-div_cancel_left, mul-mod_left}
use Rattle.std.proofs.lemmas.Nat.{xor_shr, xor_mod, xor_comm}
use Rattle.std.specs.Int.Bits.{xor_assoc, xor_self, xor_zero_r}
use Rattle.std.proofs.Math.Pow.{pow-lt}
use Rattle.std.proofs.Math.Decide.{dec_lt}
use Rattle.bits.specs.Bits.{bit}
use Rattle.matrices.specs.Assignments.{Assignments}

-- the index with the bit of wire w flipped
abbrev pub flipped : ℕ → ℕ → ℕ
flipped w i = bit_xor i (2 ^ w)

pub flipped_twice : (a i : ℕ) → flipped a (flipped a i) ≡ i
flipped_twice a i = xor_assoc i (2 ^ a) (2 ^ a) ∙ ap (bit_xor i) (xor_self (2 ^ a)) ∙ xor_zero_r i

pub flips_commute : (a b i : ℕ) → flipped a (flipped b i) ≡ flipped b (flipped a i)
flips_commute a b i = xor_assoc i (2 ^ b) (2 ^ a) ∙ ap (bit_xor i) (xor_comm (2 ^ b) (2 ^ a)) ∙ sym (xor_assoc i (2 ^ a) (2 ^ b))

digit : (a b i : ℕ) → bit_xor i (2 ^ b) / 2 ^ a % 2 ≡ bit_xor (i / 2 ^ a % 2) (2 ^ b / 2 ^ a % 2)
digit a b i = ap (λ (n : ℕ). n % 2) (xor_shr i (2 ^ b) a) ∙ xor_mod (i / 2 ^ a) (2 ^ b / 2 ^ a) 1

turned_digit : (n : ℕ) → n < 2 → (bit_xor n 1 == 1) ≡ not (n == 1)
turned_digit zero h = refl
turned_digit (suc zero) h = refl
turned_digit (suc (suc n)) h = absurd (omega arith)

pow_self : (a : ℕ) → 2 ^ a / 2 ^ a ≡ 1
pow_self a = div_self (pow_pos a)

pow_above : (a d : ℕ) → 2 ^ (a + suc d) / 2 ^ a % 2 ≡ 0
pow_above a d = ap (λ (n : ℕ). n % 2) (ap (λ (n : ℕ). n / 2 ^ a) (pow-add 2 a (suc d)) ∙ mul-div_cancel_left (2 ^ suc d) (pow_pos a) ∙ pow-suc 2 d) ∙ mul-mod_left (2 ^ d) 2

pow_below : (a b : ℕ) → b < a → 2 ^ b / 2 ^ a ≡ 0
pow_below a b h = div-eq_of_lt (pow-lt h)

pow_other : (a b : ℕ) → a ≢ b → 2 ^ b / 2 ^ a % 2 ≡ 0
pow_other a b ne = go (dec_lt b a)
  where
    go : Dec (b < a) → 2 ^ b / 2 ^ a % 2 ≡ 0
    go (yes h) = ap (λ (n : ℕ). n % 2) (pow_below a b h)
    go (no h) =
        let sum : b ≡ a + suc (b - a - 1) = omega arith in
        ap (λ (n : ℕ). 2 ^ n / 2 ^ a % 2) sum ∙ pow_above a (b - a - 1)

pub bit_same : (a i : ℕ) → bit (flipped a i) a ≡ not (bit i a)
bit_same a i = ap (λ (n : ℕ). nat_eq n 1) (digit a a i ∙ ap (λ (n : ℕ). bit_xor (i / 2 ^ a % 2) (n % 2)) (pow_self a)) ∙ turned_digit (i / 2 ^ a % 2) (omega arith)

pub bit_other : (a b i : ℕ) → a ≢ b → bit (flipped b i) a ≡ bit i a
bit_other a b i ne = ap (λ (n : ℕ). nat_eq n 1) (digit a b i ∙ ap (bit_xor (i / 2 ^ a % 2)) (pow_other a b ne) ∙ xor_zero_r (i / 2 ^ a % 2))

-- indices as assignments
abbrev pub indices : Assignments
indices = record {
  At = ℕ;
  bit = λ w i. bit i w;
  flip = flipped;
  flip_twice = flipped_twice;
  flips_commute = flips_commute;
  bit_same = bit_same;
  bit_other = bit_other;
}
