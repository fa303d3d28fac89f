-- A word is the number told of its set, and exclusive or joins sets and marks. Assumes nothing.
use Rattle.std.proofs.Common.{◌≡◌, ℕ, zero, suc, ◌+◌, ◌*◌, ◌/◌, ◌%◌, ◌^◌, ◌<◌, Bool, true, false, not, cond, eqb, refl, sym, ap, ap₂, ◌∙◌, eq-eqb, ne_eqb, arith}
use Rattle.std.proofs.lemmas.Nat.{mod-pow-add, xor_mod}
use Rattle.std.proofs.Math.Pow.{pow-lt}
use lib.Bits.{xor_zero_l}
use Rattle.bits.specs.Bits.{bit}
use Rattle.matrices.specs.Assignments.{differ}
use Rattle.matrices.proofs.Swaps.{by_eq}
use Rattle.parity.specs.Parities.{mark_of}
use Rattle.parity.specs.Sets.{sum_below, has, number_told, set_in, ParitySets}
use Rattle.parity.proofs.Ends.{bit_xored, power_bit, power_other}

digit : (d p : ℕ) → d < 2 → cond (eqb d 1) p 0 ≡ d * p
digit zero p h = omega arith
digit (suc zero) p h = omega arith
digit (suc (suc d)) p h = absurd (omega arith)

-- the bits below k of a number add up to it modulo 2 ^ k
sum_mod : (n k : ℕ) → sum_below (bit n) k ≡ n % 2 ^ k
unfolding sum_below
sum_mod n zero = omega arith
sum_mod n (suc k) =
    let e : suc k ≡ 1 + k = omega arith in
    let d : n / 2 ^ k % 2 < 2 = omega arith in
    ap₂ (λ x y. x + y) (digit (n / 2 ^ k % 2) (2 ^ k) d) (sum_mod n k) ∙ sym (ap (λ j. n % 2 ^ j) e ∙ mod-pow-add n 1 k)

told : (word : ℕ) → word < 2 ^ 33 → number_told (set_in word) ≡ word
told word h =
    let d : word / 2 ^ 32 % 2 < 2 = omega arith in
    let e = sum_mod (word % 2 ^ 32) 32 in
    let f = digit (word / 2 ^ 32 % 2) (2 ^ 32) d in
    let g = mod-pow-add word 1 32 in
    omega arith

small_power : (w : ℕ) → w < 32 → 2 ^ w % 2 ^ 32 ≡ 2 ^ w
small_power w h = let l : 2 ^ w < 2 ^ 32 = pow-lt h in omega arith

alone : (w v : ℕ) → w < 32 → has (set_in (2 ^ w)) v ≡ eqb v w
alone w v h =
    ap (λ n. bit n v) (small_power w h)
    ∙ by_eq v w (λ e. ap (bit (2 ^ w)) e ∙ power_bit w ∙ sym (eq-eqb v w e)) (λ ne. power_other w v ne ∙ sym (ne_eqb v w ne))

differ_true : (x : Bool) → differ true x ≡ not x
differ_true true = refl
differ_true false = refl

pub parity_sets : ParitySets
parity_sets = record {
  told = told;
  alone = alone;
  unmarked = λ w h. power_other w 32 (λ e. omega arith);
  joins_sets = λ x y w. ap (λ n. bit n w) (xor_mod x y 32) ∙ bit_xored (x % 2 ^ 32) (y % 2 ^ 32) w;
  joins_marks = λ x y. bit_xored x y 32;
  keeps_set = λ x. xor_mod mark_of x 32 ∙ xor_zero_l (x % 2 ^ 32);
  changes_mark = λ x. bit_xored mark_of x 32 ∙ ap (λ c. differ c (bit x 32)) (power_bit 32) ∙ differ_true (bit x 32);
}

pub told_word : (word : ℕ) → word < 2 ^ 33 → number_told (record { set = word % 2 ^ 32; marked = eqb (word / 2 ^ 32 % 2) 1 }) ≡ word
told_word word h = told word h
