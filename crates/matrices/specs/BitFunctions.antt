-- Assignments as functions from wires. Assumes nothing.
use Rattle.std.specs.Prelude.{◌≡◌, ℕ, Bool, true, false, cond, not, ◌≢◌, ◌==◌, refl}
use Rattle.std.proofs.Common.{eq-eqb, ne_eqb}
use Rattle.std.proofs.Math.Path.{fun_ext}
use Rattle.matrices.specs.Assignments.{Assignments}

-- the function with the bit of wire a flipped
abbrev pub flip_in : ℕ → (ℕ → Bool) → ℕ → Bool
flip_in a f w = cond (w == a) (not (f w)) (f w)

not_not : (x : Bool) → not (not x) ≡ x
not_not true = refl
not_not false = refl

twice : (c x : Bool) → cond c (not (cond c (not x) x)) (cond c (not x) x) ≡ x
twice true x = not_not x
twice false x = refl

both : (c d x : Bool) → cond c (not (cond d (not x) x)) (cond d (not x) x) ≡ cond d (not (cond c (not x) x)) (cond c (not x) x)
both true true x = refl
both true false x = refl
both false d x = refl

pub flips_back : (a : ℕ) (f : ℕ → Bool) → flip_in a (flip_in a f) ≡ f
flips_back a f = fun_ext (λ w. twice (w == a) (f w))

pub flips_comm : (a b : ℕ) (f : ℕ → Bool) → flip_in a (flip_in b f) ≡ flip_in b (flip_in a f)
flips_comm a b f = fun_ext (λ w. both (w == a) (w == b) (f w))

pub flip_same : (a : ℕ) (f : ℕ → Bool) → flip_in a f a ≡ not (f a)
flip_same a f = rw (eq-eqb a a refl)

pub flip_other : (a b : ℕ) (f : ℕ → Bool) → a ≢ b → flip_in b f a ≡ f a
flip_other a b f ne = rw (ne_eqb a b ne)

-- functions as assignments
abbrev pub bit_functions : Assignments
bit_functions = record {
  At = ℕ → Bool;
  bit = λ a f. f a;
  flip = flip_in;
  flip_twice = flips_back;
  flips_commute = flips_comm;
  bit_same = flip_same;
  bit_other = flip_other;
}
