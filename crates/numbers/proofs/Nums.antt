-- Numbers on a line, and their digits. Assumes nothing.
use Rattle.std.proofs.Common.{◌≡◌, ℕ, zero, suc, ◌-◌, ◌^◌, ◌<◌, ◌≤◌, ◌⊎◌, List, [], ◌∷◌, ◌++◌, length, get_or, take, drop, decimal, sym, refl, ap, ◌∙◌, subst, inl, inr, ⊎_elim, arith, length-take-le, take_all}
use Rattle.std.proofs.lemmas.Bool.Decides.{nat_tests}
use Rattle.std.proofs.lemmas.Str.Parse.{IsNumeralModel, numerals_by_value, tells_digits, digits_value_short}
use Rattle.std.proofs.lemmas.Fmt.{decimal_is_IsNumeral, decimal-digits_value, length-decimal-le, first_decimal, decimal_digit}
use Rattle.std.specs.Str.Parse.{AllDigits, digits_value}
use Rattle.std.specs.Char.{digit_value}
use Rattle.std.specs.Int.{IsInRange}
use Rattle.numbers.specs.Numbers.{NoDigitFirst, IsPlainNumeral, IsShort, spaced}

own : IsNumeralModel (AllDigits 10) (digits_value 10)
own = numerals_by_value (AllDigits 10) tells_digits

pub below : (ds : List ℕ) (k : ℕ) → AllDigits 10 ds → length ds ≤ k → digits_value 10 ds < 10 ^ k
below ds k d h = digits_value_short own ds k d h

-- the digits at the front are known from the text
pub same-front : (xs bs cs ds : List ℕ) → AllDigits 10 xs → NoDigitFirst bs → AllDigits 10 cs → NoDigitFirst ds → xs ++ bs ≡ cs ++ ds → (xs ≡ cs) × (bs ≡ ds)
same-front [] bs [] ds p q r s e = (refl, e)
same-front [] bs (c ∷ cs) ds p q r s e =
    absurd (q (omega (arith, ap length e)) (subst (λ l. digit_value (get_or l 0 0) < 10) (sym e) r.0))
same-front (a ∷ xs) bs [] ds p q r s e =
    absurd (s (omega (arith, ap length e)) (subst (λ l. digit_value (get_or l 0 0) < 10) e p.0))
same-front (a ∷ xs) bs (c ∷ cs) ds p q r s e =
    let h : a ≡ c = cc in
    let t : xs ++ bs ≡ cs ++ ds = cc in
    let i = same-front xs bs cs ds p.1 q r.1 s t in
    (let x = i.0 in cc, i.1)

wide : (n : ℕ) → IsShort n → n < 2 ^ 64
wide n h = omega arith

pub digits_of : (n : ℕ) → IsShort n → AllDigits 10 (decimal n)
digits_of n h = (decimal_is_IsNumeral n (wide n h)).0.1

-- two texts that begin with a number and then stop are alike in both
pub same_number : (m n : ℕ) (bs ds : List ℕ) → IsShort m → IsShort n → NoDigitFirst bs → NoDigitFirst ds → spaced m ++ bs ≡ spaced n ++ ds → (m ≡ n) × (bs ≡ ds)
same_number m n bs ds a b p q e =
    let t : decimal m ++ bs ≡ decimal n ++ ds = cc in
    let i = same-front (decimal m) bs (decimal n) ds (digits_of m a) p (digits_of n b) q t in
    (sym (decimal_is_IsNumeral m (wide m a)).1 ∙ ap (digits_value 10) i.0 ∙ (decimal_is_IsNumeral n (wide n b)).1, i.1)

zero_or : (m : ℕ) → (m ≡ 0) ⊎ (0 < m)
zero_or zero = inl refl
zero_or (suc m) = inr (omega arith)

one-digit : (m : ℕ) → IsShort m → get_or (decimal m) 0 0 ≡ 48 → length (decimal m) ≡ 1
one-digit m a e =
    ⊎_elim
    (λ (z : m ≡ 0). ap (λ k. length (decimal k)) z ∙ ap length (decimal_digit 0 (omega arith)))
    (λ (p : 0 < m). absurd (omega (arith, first_decimal m p (wide m a))))
    (zero_or m)

-- how a number is written is plain
plain_of : (m : ℕ) → IsShort m → IsPlainNumeral (decimal m)
plain_of m a = ((decimal_is_IsNumeral m (wide m a)).0.0, length-decimal-le 7 m (omega arith) a (wide m a), one-digit m a)

pub no_number : (ds back : List ℕ) → AllDigits 10 ds → NoDigitFirst back → (IsPlainNumeral ds → ⊥) → (m : ℕ) (t : List ℕ) → IsShort m → NoDigitFirst t → 32 ∷ (ds ++ back) ≡ spaced m ++ t → ⊥
no_number ds back d p no' m t a q e =
    let e1 : ds ++ back ≡ decimal m ++ t = cc in
    let i = same-front ds back (decimal m) t d p (digits_of m a) q e1 in
    no' (subst IsPlainNumeral (sym i.0) (plain_of m a))

pub a-number : (ds back : List ℕ) → AllDigits 10 ds → IsPlainNumeral ds → IsShort (digits_value 10 ds) × (32 ∷ (ds ++ back) ≡ spaced (digits_value 10 ds) ++ back)
a-number ds back d p =
    let small = below ds 7 d p.1 in
    (small, ap (λ l. 32 ∷ (l ++ back)) (sym (decimal-digits_value own ds d p.0 p.2 (wide _ small))))

pub digit-is : (c : ℕ) → IsInRange 48 57 c → digit_value c ≡ c - 48
digit-is c h = grind (arith, nat_tests)

-- the number so far, before the last of at most seven digits
pub so_far : (n i : ℕ) (ds : List ℕ) → n ≡ digits_value 10 (take i ds) → AllDigits 10 (take i ds) → i < length ds → length ds ≤ 7 → n < 10 ^ 6
so_far n i ds e d h k = omega (arith, below (take i ds) 6 d (omega (arith, length-take-le i ds (omega arith))))

pub after-space : (s : List ℕ) → get_or s 0 0 ≡ 32 → s ≡ 32 ∷ take (length s - 1) (drop 1 s)
after-space [] e = absurd (omega arith)
after-space (x ∷ xs) e =
    let t : take (length (x ∷ xs) - 1) (drop 1 (x ∷ xs)) ≡ xs = take_all (length (x ∷ xs) - 1) xs (omega arith) in
    let f : x ≡ 32 = e in
    cc
