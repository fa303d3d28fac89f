-- Assignments of a bit to each wire, in whatever way they are written. Assumes nothing.
use Rattle.std.specs.Prelude.{◌≡◌, ℕ, Bool, true, false, cond, not, ◌≢◌}

-- a way to write them: the bit of a wire, and the assignment with one wire flipped
pub record Assignments : Type 1 where
  pub At : Type 0
  pub bit : ℕ → At → Bool
  pub flip : ℕ → At → At
  pub flip_twice : (a : ℕ) (i : At) → flip a (flip a i) ≡ i
  pub flips_commute : (a b : ℕ) (i : At) → flip a (flip b i) ≡ flip b (flip a i)
  pub bit_same : (a : ℕ) (i : At) → bit a (flip a i) ≡ not (bit a i)
  pub bit_other : (a b : ℕ) (i : At) → a ≢ b → bit a (flip b i) ≡ bit a i

-- exclusive or
abbrev pub differ : Bool → Bool → Bool
differ true true = false
differ true false = true
differ false true = true
differ false false = false

module _ (W : Assignments) where
  -- wire a flipped if f holds
  abbrev pub flip_if : Bool → ℕ → W.At → W.At
  flip_if f a i = cond f (W.flip a i) i

  -- the target flipped where the control is 1
  abbrev pub controlled : ℕ → ℕ → W.At → W.At
  controlled c t i = flip_if (W.bit c i) t i

  -- wire a set to v
  abbrev pub with_bit : ℕ → Bool → W.At → W.At
  with_bit a v i = flip_if (differ v (W.bit a i)) a i
