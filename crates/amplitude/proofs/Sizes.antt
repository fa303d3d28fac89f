-- How large amplitudes grow. Assumes nothing.
use Rattle.std.proofs.Common.{◌≡◌, ℕ, zero, suc, ◌+◌, ◌^◌, ◌≤◌, Bool, true, false, cond, ◌==◌, ◌&&◌, nat_lt, lit≤, List, refl, ℤ, ◌+ℤ◌, neg_ℤ, unsigned_abs, sym, ap, ◌∙◌, subst, arith, le_trans, pow_mono, pow-suc, add-one, add-zero}
use Rattle.std.proofs.lemmas.Int.{ints}
use mir.Val.{bool_byte}
use Rattle.circuit.specs.declared.action.Single.{Single}
use Rattle.circuit.specs.declared.action.Action.{Action}
use Rattle.circuit.specs.Actions.{is_h}
use Rattle.circuit.specs.Operations.{one_if}
use Rattle.register.specs.Rows.{plain_row}
use Rattle.matrices.specs.declared.Amplitude.{Amplitude}
use Rattle.matrices.specs.Numbers.{nought, unit, plus, turned}
use Rattle.matrices.specs.Assignments.{differ, flip_if}
use Rattle.matrices.specs.Indices.{indices}
use Rattle.matrices.specs.Gates.{Gate.hadamard, terms, value, applied, acted}
use Rattle.bits.specs.Bits.{bit}
use Rattle.amplitude.specs.Sizes.{vector, Small}
use Rattle.amplitude.specs.Models.{blank_vector}

sum_size : (m : ℕ) (x y : ℤ) → unsigned_abs x ≤ m → unsigned_abs y ≤ m → unsigned_abs (x +ℤ y) ≤ m + m
sum_size m x y p q = omega (arith, ints)

minus_size : (m : ℕ) (x : ℤ) → unsigned_abs x ≤ m → unsigned_abs (neg_ℤ x) ≤ m
minus_size m x p = omega (arith, ints)

plus_small : (m : ℕ) (x y : Amplitude) → Small m x → Small m y → Small (m + m) (plus x y)
plus_small m x y p q = record {
  a_small = sum_size m x.a y.a p.a_small q.a_small;
  b_small = sum_size m x.b y.b p.b_small q.b_small;
  c_small = sum_size m x.c y.c p.c_small q.c_small;
  d_small = sum_size m x.d y.d p.d_small q.d_small;
}

turned_small : (n m : ℕ) (x : Amplitude) → Small m x → Small m (turned n x)
turned_small zero m x p = p
turned_small (suc n) m x p =
    let q = turned_small n m x p in
    record { a_small = minus_size m (turned n x).d q.d_small; b_small = q.a_small; c_small = q.b_small; d_small = q.c_small }

h_small : (m : ℕ) (x y : Bool) (V : Bool → Bool → Amplitude) → ((f g : Bool) → Small m (V f g)) → Small (m + m) (value (terms hadamard x y) V)
h_small m true y V h = plus_small m (turned 0 (V true false)) (turned 4 (V false false)) (turned_small 0 m (V true false) (h true false)) (turned_small 4 m (V false false) (h false false))
h_small m false y V h = plus_small m (turned 0 (V false false)) (turned 0 (V true false)) (h false false) (h true false)

double : (m : ℕ) → 2 ^ m + 2 ^ m ≡ 2 ^ (m + 1)
double m = sym (ap (λ (n : ℕ). 2 ^ n) (add-one m) ∙ pow-suc 2 m ∙ omega arith)

same : (m : ℕ) (x : Amplitude) → Small (2 ^ m) x → Small (2 ^ (m + 0)) x
same m x h = subst (λ (n : ℕ). Small (2 ^ n) x) (sym (add-zero m)) h

-- only an H makes numbers larger, and no more than twice as large
pub acted_small : (m : ℕ) (x : Action) (v : ℕ → Amplitude) → ((i : ℕ) → Small (2 ^ m) (v i)) → (i : ℕ) → Small (2 ^ (m + one_if (is_h x))) (acted indices plain_row x v i)
acted_small m (Action.One Single.H a) v h i = subst (λ (n : ℕ). Small n (applied indices hadamard a a v i)) (double m) (h_small (2 ^ m) (bit i a) (bit i a) (λ f g. v (flip_if indices f a (flip_if indices g a i))) (λ f g. h (flip_if indices f a (flip_if indices g a i))))
acted_small m (Action.One (Single.Plain p) a) v h i =
    let n = cond (differ (plain_row p).flips (bit i a)) (plain_row p).turn1 (plain_row p).turn0 in
    let j = flip_if indices (plain_row p).flips a i in
    same m (acted indices plain_row (Action.One (Single.Plain p) a) v i) (turned_small n (2 ^ m) (v j) (h j))
acted_small m (Action.One Single.Read a) v h i = same m (v i) (h i)
acted_small m (Action.Cnot a b) v h i = same m (acted indices plain_row (Action.Cnot a b) v i) (h (flip_if indices (bit i a) b i))

pub small_within : (m : ℕ) (x : Amplitude) → m ≤ 60 → Small (2 ^ m) x → Small (2 ^ 60) x
small_within m x h s =
    let p : 2 ^ m ≤ 2 ^ 60 = pow_mono h in
    record { a_small = le_trans s.a_small p; b_small = le_trans s.b_small p; c_small = le_trans s.c_small p; d_small = le_trans s.d_small p }

-- the bound after an action, where more is what it adds to the count
pub still_small : (n m more : ℕ) (x : Action) (xs ys : List Amplitude) → more ≡ one_if (is_h x) → vector n ys ≡ acted indices plain_row x (vector n xs) → ((i : ℕ) → Small (2 ^ m) (vector n xs i)) → (i : ℕ) → Small (2 ^ (m + more)) (vector n ys i)
still_small n m more x xs ys e a h i =
    subst (λ (k : ℕ). Small (2 ^ (m + k)) (vector n ys i)) (sym e)
    (subst (λ (v : ℕ → Amplitude). Small (2 ^ (m + one_if (is_h x))) (v i)) (sym a) (acted_small m x (vector n xs) h i))

pub byte_is : (b c : Bool) → b ≡ c → bool_byte b ≡ one_if c
byte_is b c e = ap bool_byte e ∙ go c
  where
    go : (c : Bool) → bool_byte c ≡ one_if c
    go true = refl
    go false = refl

pub blank_small : (n : ℕ) (ys : List Amplitude) → vector n ys ≡ blank_vector n → (i : ℕ) → Small 1 (vector n ys i)
blank_small n ys e i = subst (λ (v : ℕ → Amplitude). Small 1 (v i)) (sym e) (go (i == 0 && nat_lt 0 n))
  where
    go : (b : Bool) → Small 1 (cond b unit nought)
    go true = record { a_small = lit≤ tt; b_small = lit≤ tt; c_small = lit≤ tt; d_small = lit≤ tt }
    go false = record { a_small = lit≤ tt; b_small = lit≤ tt; c_small = lit≤ tt; d_small = lit≤ tt }
