-- How many places a register uses, what vector they hold, and how large its numbers are. Assumes nothing.
use Rattle.std.specs.Prelude.{ℕ, ◌^◌, ◌≤◌, cond, List, ◌==◌, nat_lt, slice_index_or, unsigned_abs}
use Rattle.matrices.specs.declared.Amplitude.{Amplitude}
use Rattle.matrices.specs.Numbers.{nought}

-- one place for each index, none where there are no wires
abbrev pub used : ℕ → ℕ
used n = cond (n == 0) 0 (2 ^ n)

-- the vector on n wires that the places hold, 0 past the last index
abbrev pub vector : ℕ → List Amplitude → ℕ → Amplitude
vector n xs i = cond (nat_lt i (used n)) (slice_index_or xs i nought) nought

-- each of the four numbers is at most m in size
pub record Small (m : ℕ) (x : Amplitude) : Type 0 where
  pub a_small : unsigned_abs x.a ≤ m
  pub b_small : unsigned_abs x.b ≤ m
  pub c_small : unsigned_abs x.c ≤ m
  pub d_small : unsigned_abs x.d ≤ m
