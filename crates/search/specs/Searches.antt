-- The first place, and the first two places, at which a test holds. Assumes nothing.
use Rattle.std.specs.Prelude.{◌≡◌, ℕ, zero, suc, ◌+◌, ◌<◌, max, Bool, true, false, cond, ◌&&◌, ◌||◌, ◌⊎◌, List, Some, None, Option, nat_lt, slice_index_or}

-- the first of the m places i, i + 1, .. at which the test holds
abbrev pub first_from : (ℕ → Bool) → ℕ → ℕ → Option ℕ
first_from test i zero = None
first_from test i (suc m) = cond (test i) (Some i) (first_from test (i + 1) m)

-- the first place below n
abbrev pub first_below : (ℕ → Bool) → ℕ → Option ℕ
first_below test n = first_from test 0 n

-- the test holds at some place below n
abbrev pub some_below : (ℕ → Bool) → ℕ → Bool
some_below test zero = false
some_below test (suc n) = test n || some_below test n

-- the greatest of f 0, .., f (n - 1), and 0 where there is none
abbrev pub highest : (ℕ → ℕ) → ℕ → ℕ
highest f zero = 0
highest f (suc n) = max (highest f n) (f n)

-- the test, of places in order only or of any
abbrev pub tested : Bool → (ℕ → ℕ → Bool) → ℕ → ℕ → Bool
tested true test i j = nat_lt i j && test i j
tested false test i j = test i j

-- the first place is below the second, and the elements there pass the test
abbrev pub paired : {X : Type 0} → (X → X → Bool) → List X → X → ℕ → ℕ → Bool
paired test xs d i j = nat_lt i j && test (slice_index_or xs i d) (slice_index_or xs j d)

-- the place i with the second place, or else the rest
abbrev pub beside : ℕ → Option ℕ → Option (ℕ × ℕ) → Option (ℕ × ℕ)
beside i None rest = rest
beside i (Some j) rest = Some (i, j)

-- the first two places, the first of which is one of the m places i, i + 1, .., and the second below n
abbrev pub scan_from : (ℕ → ℕ → Bool) → ℕ → ℕ → ℕ → Option (ℕ × ℕ)
scan_from test n i zero = None
scan_from test n i (suc m) = beside i (first_below (test i) n) (scan_from test n (i + 1) m)

-- the first two places, the first below m and the second below n
abbrev pub scan_pairs : (ℕ → ℕ → Bool) → ℕ → ℕ → Option (ℕ × ℕ)
scan_pairs test m n = scan_from test n 0 m

-- (a, b) comes before (i, j): by the first place, then by the second
abbrev pub Earlier : ℕ → ℕ → ℕ → ℕ → Type 0
Earlier a b i j = (a < i) ⊎ ((a ≡ i) × (b < j))

-- what the two places that are named, or their want, say
abbrev pub Scanned : (ℕ → ℕ → Bool) → ℕ → ℕ → Option (ℕ × ℕ) → Type 0
Scanned test m n None = (a b : ℕ) → a < m → b < n → test a b ≡ false
Scanned test m n (Some q) = (q.0 < m) × (q.1 < n) × (test q.0 q.1 ≡ true) × ((a b : ℕ) → a < m → b < n → Earlier a b q.0 q.1 → test a b ≡ false)
