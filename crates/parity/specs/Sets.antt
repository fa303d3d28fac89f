-- A wire's word as a set of starting wires and a mark, and the number that is told of it. Assumes nothing.
use Rattle.std.specs.Prelude.{◌≡◌, ℕ, zero, suc, ◌+◌, ◌%◌, ◌^◌, ◌<◌, Bool, false, not, cond, ◌==◌, bit_xor}
use Rattle.bits.specs.Bits.{bit}
use Rattle.matrices.specs.Assignments.{differ}
use Rattle.parity.specs.declared.wire_set.WireSet.{WireSet}
use Rattle.parity.specs.Parities.{mark_of}

-- the sum of 2 ^ w over the w below n that pass
unfoldable pub sum_below : (ℕ → Bool) → ℕ → ℕ
sum_below g zero = 0
sum_below g (suc n) = cond (g n) (2 ^ n) 0 + sum_below g n

-- the set has the starting wire w
abbrev pub has : WireSet → ℕ → Bool
has u w = bit u.set w

-- the sum of 2 ^ w over the set, plus 2 ^ 32 if marked
abbrev pub number_told : WireSet → ℕ
number_told u = sum_below (has u) 32 + cond u.marked (2 ^ 32) 0

-- the set and the mark in a word
abbrev pub set_in : ℕ → WireSet
set_in word = record { set = word % 2 ^ 32; marked = bit word 32 }

pub record ParitySets : Type 0 where
  -- a word is the number told of its set
  pub told : (word : ℕ) → word < 2 ^ 33 → number_told (set_in word) ≡ word
  -- a blank wire is the set of itself, unmarked
  pub alone : (w v : ℕ) → w < 32 → has (set_in (2 ^ w)) v ≡ (v == w)
  pub unmarked : (w : ℕ) → w < 32 → (set_in (2 ^ w)).marked ≡ false
  -- the exclusive or of words joins sets and marks by exclusive or
  pub joins_sets : (x y w : ℕ) → has (set_in (bit_xor x y)) w ≡ differ (has (set_in x) w) (has (set_in y) w)
  pub joins_marks : (x y : ℕ) → (set_in (bit_xor x y)).marked ≡ differ (set_in x).marked (set_in y).marked
  -- that with the mark changes the mark and nothing else
  pub keeps_set : (x : ℕ) → (set_in (bit_xor mark_of x)).set ≡ (set_in x).set
  pub changes_mark : (x : ℕ) → (set_in (bit_xor mark_of x)).marked ≡ not (set_in x).marked
