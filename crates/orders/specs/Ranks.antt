-- Total orders, by the test that says which of two comes first. Assumes nothing.
use Rattle.std.specs.Prelude.{◌≡◌, ℕ, Bool, true, false, cond, List, [], ◌∷◌, ◌==◌, nat_lt}
use Rattle.std.specs.declared.cmp.Ordering.TheVariants.{Less, Equal, Greater}
use Rattle.std.specs.declared.cmp.Ordering.{Ordering}

-- `before` is a total order: one of two that differ comes first
pub record TotalOrder {X : Type 0} (before : X → X → Bool) : Type 0 where
  -- not both come first
  pub one_way : (x y : X) → before x y ≡ true → before y x ≡ false
  -- what does not come first of neighbours does not of the ends
  pub chain : (x y z : X) → before x y ≡ false → before y z ≡ false → before x z ≡ false
  -- two of which neither comes first are one
  pub apart : (x y : X) → before x y ≡ false → before y x ≡ false → x ≡ y

-- what `cmp` answers under an order
abbrev pub compared : {X : Type 0} → (X → X → Bool) → X → X → Ordering
compared before x y = cond (before x y) Less (cond (before y x) Greater Equal)

-- keys, which are lists of numbers: the first number that differs decides, and a key that ends first comes first
abbrev pub precedes : List ℕ → List ℕ → Bool
precedes [] [] = false
precedes [] (y ∷ ys) = true
precedes (x ∷ xs) [] = false
precedes (x ∷ xs) (y ∷ ys) = cond (x == y) (precedes xs ys) (nat_lt x y)

-- elements in the order of their keys
abbrev pub by_key : {X : Type 0} → (X → List ℕ) → X → X → Bool
by_key key x y = precedes (key x) (key y)
