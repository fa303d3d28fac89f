-- How long numbers are, and what places hold in front of what is put and behind it. Assumes nothing.
use Rattle.std.proofs.Common.{◌≡◌, ℕ, ◌+◌, ◌/◌, ◌^◌, ◌<◌, ◌≤◌, List, [], ◌∷◌, ◌++◌, length, take, drop, sym, ap, ◌∙◌, arith, length-append, take-take}
use Rattle.std.proofs.lemmas.Fmt.{decimal_step, decimal_digit, length-decimal-le}
use Rattle.std.proofs.lemmas.List.{drop_all}
use Rattle.std.specs.Fmt.{decimal}

pub length_wide : (n : ℕ) → n < 2 ^ 64 → length (decimal n) ≤ 20
length_wide n h = length-decimal-le 20 n (omega arith) (omega arith) h

pub length_one : (n : ℕ) → n < 10 → length (decimal n) ≡ 1
length_one n h = ap length (decimal_digit n h)

pub length_step : (n : ℕ) → 10 ≤ n → n < 2 ^ 64 → length (decimal n) ≡ length (decimal (n / 10)) + 1
length_step n lo hi = ap length (decimal_step n lo hi) ∙ length-append _ _

-- what is in front of two writes, the second further in front, is as it was
pub before_both : (m n : ℕ) (xs ys zs : List ℕ) → m ≤ n → take m xs ≡ take m ys → take n ys ≡ take n zs → take m xs ≡ take m zs
before_both m n xs ys zs le e f = e ∙ sym (take-take m n ys le) ∙ ap (take m) f ∙ take-take m n zs le

-- a text in front of the last place, where a line feed stands
pub ended : (start end : ℕ) (was mid now text : List ℕ) → drop start now ≡ text ++ drop end mid → drop end mid ≡ 10 ∷ drop 128 was → length was ≡ 128 → drop start now ≡ text ++ 10 ∷ []
ended start end was mid now text e f long = e ∙ ap (λ l. text ++ l) (f ∙ ap (λ l. 10 ∷ l) (drop_all 128 was (omega arith)))
