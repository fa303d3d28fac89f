-- The text of numbers on a line. Assumes nothing.
use Rattle.std.specs.Prelude.{◌≡◌, ℕ, ◌^◌, ◌<◌, ◌≤◌, List, [], ◌∷◌, ◌++◌, length, decimal, Option, MatchOption, ◌≢◌, slice_index}
use Rattle.std.specs.Char.{digit_value}
use Rattle.std.specs.List.{AllByRecursion}
use Rattle.std.specs.Borrow.{Bor}

-- no digit comes first
abbrev pub NoDigitFirst : List ℕ → Type 0
NoDigitFirst bs = 0 < length bs → digit_value (slice_index bs 0) < 10 → ⊥

-- 1 to 7 digits, and a leading 0 only alone
abbrev pub IsPlainNumeral : List ℕ → Type 0
IsPlainNumeral ds = (0 < length ds) × (length ds ≤ 7) × (slice_index ds 0 ≡ 48 → length ds ≡ 1)

-- a number has at most seven digits
abbrev pub IsShort : ℕ → Type 0
IsShort n = n < 10 ^ 7

-- a space and the number in decimal
abbrev pub spaced : ℕ → List ℕ
spaced n = 32 ∷ decimal n

abbrev pub spaced_all : List ℕ → List ℕ
spaced_all [] = []
spaced_all (n ∷ ns) = spaced n ++ spaced_all ns

-- r is the number at the front of bs and what follows it, or none where no number is there
abbrev pub NumberRead : List ℕ → Option (ℕ × Bor (List ℕ)) → Type 0
NumberRead bs r =
    MatchOption r
    ((n : ℕ) (rest : List ℕ) → IsShort n → NoDigitFirst rest → bs ≢ spaced n ++ rest)
    (λ p. IsShort p.0 × NoDigitFirst p.1.now × (bs ≡ spaced p.0 ++ p.1.now))

-- r is the k numbers whose text bs is, or none where bs is the text of no k numbers
abbrev pub NumbersRead : ℕ → List ℕ → Option (List ℕ) → Type 0
NumbersRead k bs r =
    MatchOption r
    ((ns : List ℕ) → length ns ≡ k → AllByRecursion IsShort ns → bs ≢ spaced_all ns)
    (λ ns. (length ns ≡ k) × AllByRecursion IsShort ns × (bs ≡ spaced_all ns))
