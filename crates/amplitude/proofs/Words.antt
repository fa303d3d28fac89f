-- The numbers of an amplitude as words of 64 bits, and turns by parts. Assumes nothing.
use Rattle.std.proofs.Common.{◌≡◌, ℕ, ◌+◌, ◌%◌, ◌^◌, ◌<◌, ◌≤◌, Bool, cond, nat_lt, ℤ, pos, ◌+ℤ◌, ◌-ℤ◌, neg_ℤ, unsigned_abs, w64, to_z, of_z, sym, ap, ◌∙◌, arith, lt-ltb, le-ltb}
use Rattle.std.proofs.lemmas.Int.{ints}
use native.Mathlib.Decide.{dec_lt}
use Rattle.matrices.specs.declared.Amplitude.{Amplitude}
use Rattle.matrices.specs.Numbers.{turned}
use Rattle.matrices.proofs.Numbers.{turned_add, turned_mod}

pub minus_word : (x : ℤ) → unsigned_abs x ≤ 2 ^ 60 → to_z w64 (of_z w64 (pos 0 -ℤ to_z w64 (of_z w64 x))) ≡ neg_ℤ x
minus_word x h = omega (arith, ints)

pub same_word : (x : ℤ) → unsigned_abs x ≤ 2 ^ 60 → to_z w64 (of_z w64 x) ≡ x
same_word x h = omega (arith, ints)

pub sum_word : (x y : ℤ) → unsigned_abs x ≤ 2 ^ 60 → unsigned_abs y ≤ 2 ^ 60 → to_z w64 (of_z w64 (to_z w64 (of_z w64 x) +ℤ to_z w64 (of_z w64 y))) ≡ x +ℤ y
sum_word x y h k = omega (arith, ints)

-- n turns are those left of the fours, after one of four where the eighth part of a whole turn says so
pub turned_parts : (n : ℕ) (x : Amplitude) → turned (n % 4) (cond (nat_lt (n % 8) 4) x (turned 4 x)) ≡ turned n x
turned_parts n x = go (dec_lt (n % 8) 4)
  where
    go : Dec (n % 8 < 4) → turned (n % 4) (cond (nat_lt (n % 8) 4) x (turned 4 x)) ≡ turned n x
    go (yes h) =
        let e : n % 4 ≡ n % 8 = omega arith in
        ap (λ (b : Bool). turned (n % 4) (cond b x (turned 4 x))) (lt-ltb (n % 8) 4 h) ∙ ap (λ (k : ℕ). turned k x) e ∙ turned_mod n x
    go (no h) =
        let k : 4 ≤ n % 8 = omega arith in
        let e : n % 4 + 4 ≡ n % 8 = omega arith in
        ap (λ (b : Bool). turned (n % 4) (cond b x (turned 4 x))) (le-ltb (n % 8) 4 k) ∙ sym (turned_add (n % 4) 4 x) ∙ ap (λ (k : ℕ). turned k x) e ∙ turned_mod n x
