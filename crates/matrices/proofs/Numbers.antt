-- Laws of the numbers a + bω + cω² + dω³. Assumes nothing.
use Rattle.std.proofs.Common.{◌≡◌, ℕ, zero, suc, ◌+◌, ◌*◌, ◌/◌, ◌%◌, ℤ, pos, negsuc, ◌+ℤ◌, ◌*ℤ◌, neg_ℤ, sym, refl, ap, ◌∙◌, ap₂, zero-add, suc-add, arith}
use lib.IntN.{neg_ℤ-neg_ℤ, neg_ℤ-+ℤ, zero-*ℤ, *ℤ-one, *ℤ_comm, +ℤ_comm, +ℤ_assoc, +ℤ_idr, one}
use Rattle.matrices.specs.declared.Amplitude.{Amplitude}
use Rattle.matrices.specs.Numbers.{amplitude, nought, unit, plus, times_omega, turned, omega_power, scaled, times}

pub plus_comm : (x y : Amplitude) → plus x y ≡ plus y x
plus_comm x y = λ i. amplitude (+ℤ_comm x.a y.a i) (+ℤ_comm x.b y.b i) (+ℤ_comm x.c y.c i) (+ℤ_comm x.d y.d i)

pub plus_assoc : (x y z : Amplitude) → plus (plus x y) z ≡ plus x (plus y z)
plus_assoc x y z = λ i. amplitude (+ℤ_assoc x.a y.a z.a i) (+ℤ_assoc x.b y.b z.b i) (+ℤ_assoc x.c y.c z.c i) (+ℤ_assoc x.d y.d z.d i)

pub omega_plus : (x y : Amplitude) → times_omega (plus x y) ≡ plus (times_omega x) (times_omega y)
omega_plus x y = ap (λ (e : ℤ). amplitude e (x.a +ℤ y.a) (x.b +ℤ y.b) (x.c +ℤ y.c)) (neg_ℤ-+ℤ x.d y.d)

pub turned_plus : (n : ℕ) (x y : Amplitude) → turned n (plus x y) ≡ plus (turned n x) (turned n y)
turned_plus zero x y = refl
turned_plus (suc n) x y = ap times_omega (turned_plus n x y) ∙ omega_plus (turned n x) (turned n y)

turned_omega : (n : ℕ) (x : Amplitude) → turned n (times_omega x) ≡ times_omega (turned n x)
turned_omega zero x = refl
turned_omega (suc n) x = ap times_omega (turned_omega n x)

pub turned_comm : (m n : ℕ) (x : Amplitude) → turned m (turned n x) ≡ turned n (turned m x)
turned_comm m zero x = refl
turned_comm m (suc n) x = turned_omega m (turned n x) ∙ ap times_omega (turned_comm m n x)

-- the sum of four, grouped by rows or by columns
pub plus_four : (x y z w : Amplitude) → plus (plus x y) (plus z w) ≡ plus (plus x z) (plus y w)
plus_four x y z w = plus_assoc x y (plus z w) ∙ ap (plus x) (sym (plus_assoc y z w) ∙ ap (λ (v : Amplitude). plus v w) (plus_comm y z) ∙ plus_assoc z y w) ∙ sym (plus_assoc x z (plus y w))

neg_times : (x y : ℤ) → neg_ℤ x *ℤ y ≡ neg_ℤ (x *ℤ y)
neg_times (pos zero) y = zero-*ℤ y ∙ sym (ap neg_ℤ (zero-*ℤ y))
neg_times (pos (suc n)) (pos m) = refl
neg_times (pos (suc n)) (negsuc m) = sym (neg_ℤ-neg_ℤ (pos (suc n * suc m)))
neg_times (negsuc n) (pos m) = sym (neg_ℤ-neg_ℤ (pos (suc n * m)))
neg_times (negsuc n) (negsuc m) = refl

times_neg : (x y : ℤ) → x *ℤ neg_ℤ y ≡ neg_ℤ (x *ℤ y)
times_neg x y = *ℤ_comm x (neg_ℤ y) ∙ neg_times y x ∙ ap neg_ℤ (*ℤ_comm y x)

one_times : (x : ℤ) → pos 1 *ℤ x ≡ x
unfolding one
one_times x = *ℤ_comm (pos 1) x ∙ *ℤ-one x

pub plus_nought : (x : Amplitude) → plus x nought ≡ x
plus_nought x = λ i. amplitude (+ℤ_idr x.a i) (+ℤ_idr x.b i) (+ℤ_idr x.c i) (+ℤ_idr x.d i)

pub nought_plus : (x : Amplitude) → plus nought x ≡ x
nought_plus x = plus_comm nought x ∙ plus_nought x

scaled_nought : (x : Amplitude) → scaled (pos 0) x ≡ nought
scaled_nought x = λ i. amplitude (zero-*ℤ x.a i) (zero-*ℤ x.b i) (zero-*ℤ x.c i) (zero-*ℤ x.d i)

scaled_one : (x : Amplitude) → scaled (pos 1) x ≡ x
scaled_one x = λ i. amplitude (one_times x.a i) (one_times x.b i) (one_times x.c i) (one_times x.d i)

scaled_omega : (z : ℤ) (x : Amplitude) → times_omega (scaled z x) ≡ scaled z (times_omega x)
scaled_omega z x = ap (λ (e : ℤ). amplitude e (z *ℤ x.a) (z *ℤ x.b) (z *ℤ x.c)) (sym (times_neg z x.d))

scaled_four : (z : ℤ) (x : Amplitude) → scaled z (turned 4 x) ≡ scaled (neg_ℤ z) x
scaled_four z x = λ i. amplitude (e x.a i) (e x.b i) (e x.c i) (e x.d i)
  where
    e : (y : ℤ) → z *ℤ neg_ℤ y ≡ neg_ℤ z *ℤ y
    e y = times_neg z y ∙ sym (neg_times z y)

pub times_nought : (y : Amplitude) → times nought y ≡ nought
times_nought y = ap₂ plus (ap₂ plus (ap₂ plus (scaled_nought y) (scaled_nought (turned 1 y))) (scaled_nought (turned 2 y))) (scaled_nought (turned 3 y))

pub times_unit : (y : Amplitude) → times unit y ≡ y
times_unit y =
    ap₂ plus (ap₂ plus (ap₂ plus (scaled_one y) (scaled_nought (turned 1 y)) ∙ plus_nought y) (scaled_nought (turned 2 y)) ∙ plus_nought y) (scaled_nought (turned 3 y)) ∙ plus_nought y

-- the last of four first
last_first : (p q r s : Amplitude) → plus (plus (plus s p) q) r ≡ plus (plus (plus p q) r) s
last_first p q r s = ap (λ (x : Amplitude). plus x r) (plus_assoc s p q) ∙ plus_assoc s (plus p q) r ∙ plus_comm s (plus (plus p q) r)

omega_product : (x y : Amplitude) → times (times_omega x) y ≡ times_omega (times x y)
omega_product x y =
    last_first A B C (scaled (neg_ℤ x.d) y)
    ∙ sym (omega_plus (plus (plus (scaled x.a y) (scaled x.b (turned 1 y))) (scaled x.c (turned 2 y))) (scaled x.d (turned 3 y))
    ∙ ap₂ plus (omega_plus (plus (scaled x.a y) (scaled x.b (turned 1 y))) (scaled x.c (turned 2 y))
    ∙ ap₂ plus (omega_plus (scaled x.a y) (scaled x.b (turned 1 y)) ∙ ap₂ plus (scaled_omega x.a y) (scaled_omega x.b (turned 1 y))) (scaled_omega x.c (turned 2 y)))
    (scaled_omega x.d (turned 3 y) ∙ scaled_four x.d y))
  where
    A : Amplitude
    A = scaled x.a (turned 1 y)

    B : Amplitude
    B = scaled x.b (turned 2 y)

    C : Amplitude
    C = scaled x.c (turned 3 y)

pub times_power : (n : ℕ) (y : Amplitude) → times (omega_power n) y ≡ turned n y
times_power zero y = times_unit y
times_power (suc n) y = omega_product (omega_power n) y ∙ ap times_omega (times_power n y)

-- turns count up to eight
turned_eight : (x : Amplitude) → turned 8 x ≡ x
turned_eight x = λ i. amplitude (neg_ℤ-neg_ℤ x.a i) (neg_ℤ-neg_ℤ x.b i) (neg_ℤ-neg_ℤ x.c i) (neg_ℤ-neg_ℤ x.d i)

pub turned_add : (m n : ℕ) (x : Amplitude) → turned (m + n) x ≡ turned m (turned n x)
turned_add zero n x = ap (λ (k : ℕ). turned k x) (zero-add n)
turned_add (suc m) n x = ap (λ (k : ℕ). turned k x) (suc-add m n) ∙ ap times_omega (turned_add m n x)

turned_eights : (q r : ℕ) (x : Amplitude) → turned (8 * q + r) x ≡ turned r x
turned_eights zero r x = let e : 8 * 0 + r ≡ r = omega arith in ap (λ (k : ℕ). turned k x) e
turned_eights (suc q) r x =
    let e : 8 * suc q + r ≡ 8 + (8 * q + r) = omega arith in
    ap (λ (k : ℕ). turned k x) e ∙ turned_add 8 (8 * q + r) x ∙ turned_eight (turned (8 * q + r) x) ∙ turned_eights q r x

pub turned_mod : (n : ℕ) (x : Amplitude) → turned (n % 8) x ≡ turned n x
turned_mod n x =
    let e : n ≡ 8 * (n / 8) + n % 8 = omega arith in
    sym (ap (λ (k : ℕ). turned k x) e ∙ turned_eights (n / 8) (n % 8) x)

pub turned_nought : (n : ℕ) → turned n nought ≡ nought
turned_nought zero = refl
turned_nought (suc n) = ap times_omega (turned_nought n)
