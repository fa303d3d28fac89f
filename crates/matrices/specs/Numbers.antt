-- The numbers a + bω + cω² + dω³, where ω⁴ = −1. Assumes nothing.
use Rattle.std.specs.Prelude.{ℕ, zero, suc, ℤ, pos, ◌+ℤ◌, ◌*ℤ◌, neg_ℤ}
use Rattle.matrices.specs.declared.Amplitude.{Amplitude}

abbrev pub amplitude : ℤ → ℤ → ℤ → ℤ → Amplitude
amplitude a b c d = record { a = a; b = b; c = c; d = d }

-- 0
abbrev pub nought : Amplitude
nought = amplitude (pos 0) (pos 0) (pos 0) (pos 0)

-- 1
abbrev pub unit : Amplitude
unit = amplitude (pos 1) (pos 0) (pos 0) (pos 0)

abbrev pub plus : Amplitude → Amplitude → Amplitude
plus x y = amplitude (x.a +ℤ y.a) (x.b +ℤ y.b) (x.c +ℤ y.c) (x.d +ℤ y.d)

-- times ω: ω·ω³ is −1
abbrev pub times_omega : Amplitude → Amplitude
times_omega x = amplitude (neg_ℤ x.d) x.a x.b x.c

-- times ω to the n
abbrev pub turned : ℕ → Amplitude → Amplitude
turned zero x = x
turned (suc n) x = times_omega (turned n x)

-- ω to the n
abbrev pub omega_power : ℕ → Amplitude
omega_power n = turned n unit

-- times a whole number
abbrev pub scaled : ℤ → Amplitude → Amplitude
scaled z y = amplitude (z *ℤ y.a) (z *ℤ y.b) (z *ℤ y.c) (z *ℤ y.d)

-- the product, term by term
abbrev pub times : Amplitude → Amplitude → Amplitude
times x y = plus (plus (plus (scaled x.a y) (scaled x.b (turned 1 y))) (scaled x.c (turned 2 y))) (scaled x.d (turned 3 y))
