-- Vectors over indices that are a power of ω at one of them. Assumes nothing.
use Rattle.std.specs.Prelude.{ℕ, cond, ◌==◌}
use Rattle.matrices.specs.Numbers.{nought, omega_power}
use Rattle.matrices.specs.Indices.{indices}
use Rattle.matrices.specs.Matrices.{Vector}

-- ω to the n at index j, and 0 elsewhere
abbrev pub index_vector : ℕ → ℕ → Vector indices
index_vector n j i = cond (i == j) (omega_power n) nought
