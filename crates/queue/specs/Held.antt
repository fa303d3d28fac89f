-- What a queue holds, in the order in which it leaves. Assumes nothing.
use Rattle.std.specs.Prelude.{◌≡◌, ℕ, ◌<◌, Bool, false, List, [], ◌∷◌, length, take, drop, Some, None, Option, slice_index_or}
use Rattle.orders.specs.Sorting.{sorted}
use Rattle.queue.specs.declared.Queue.{Queue}

module _ {X : Type 0} where
  -- how many wait
  abbrev pub count : Queue X → ℕ
  count q = q.len

  -- how many places it has
  abbrev pub room : Queue X → ℕ
  room q = length q.places.now

  -- what waits, in whatever order it stands in the places
  abbrev pub waiting : Queue X → List X
  waiting q = take q.len q.places.now

  -- what waits, in order
  abbrev pub held : (X → X → Bool) → Queue X → List X
  held before q = sorted before (waiting q)

  -- the same lent places, and those past the first n hold what they held
  pub record Lent (n : ℕ) (was then : Queue X) : Type 0 where
    pub lender : then.places.ghost_name ≡ was.places.ghost_name
    pub long : length then.places.now ≡ length was.places.now
    pub rest : drop n then.places.now ≡ drop n was.places.now

-- the first, if there is one
abbrev pub first : {X : Type 0} → List X → Option X
first [] = None
first (x ∷ xs) = Some x

-- all but the first
abbrev pub others : {X : Type 0} → List X → List X
others [] = []
others (x ∷ xs) = xs

-- no element of xs comes before the one at i
pub record Least {X : Type 0} (before : X → X → Bool) (xs : List X) (i : ℕ) : Type 0 where
  pub within : i < length xs
  pub first : (k : ℕ) (d : X) → k < length xs → before (slice_index_or xs k d) (slice_index_or xs i d) ≡ false
