-- Acting is multiplying by matrices. Assumes nothing.
use Rattle.std.proofs.Common.{◌≡◌, ℕ, Bool, true, false, ◌≢◌, sym, ap, ap₂, ◌∙◌}
use Rattle.std.proofs.Math.Path.{fun_ext}
use Rattle.circuit.specs.declared.action.Plain.{Plain}
use Rattle.circuit.specs.declared.action.Single.{Single}
use Rattle.circuit.specs.declared.action.Action.{Action}
use Rattle.circuit.specs.Actions.{Distinct}
use Rattle.register.specs.declared.rows.PlainRow.{PlainRow}
use Rattle.register.specs.Rows.{row_of}
use Rattle.matrices.specs.declared.Amplitude.{Amplitude}
use Rattle.matrices.specs.Numbers.{nought, plus, times, turned, omega_power}
use Rattle.matrices.specs.Assignments.{Assignments, differ, flip_if, with_bit}
use Rattle.matrices.specs.Matrices.{Vector, plain_matrix, h_matrix, identity_matrix, cnot_matrix, times_vector2, multiplied}
use Rattle.matrices.specs.Gates.{Gate.plain, Gate.hadamard, Gate.flip, terms, value, applied, acted}
use Rattle.matrices.proofs.Numbers.{plus_nought, nought_plus, times_nought, times_power}
use Rattle.matrices.proofs.Swaps.{bit_move}

left_only : (n : ℕ) (y z : Amplitude) → turned n y ≡ plus (times (omega_power n) y) (times nought z)
left_only n y z = sym (ap₂ plus (times_power n y) (times_nought z) ∙ plus_nought (turned n y))

right_only : (n : ℕ) (y z : Amplitude) → turned n z ≡ plus (times nought y) (times (omega_power n) z)
right_only n y z = sym (ap₂ plus (times_nought y) (times_power n z) ∙ nought_plus (turned n z))

module _ (W : Assignments) where
  plain_at : (f : Bool) (m n a : ℕ) (s : W.At → Amplitude) (i : W.At) (x : Bool)
      → value (terms (plain (row_of f m n)) x x) (λ h k. s (flip_if W h a (flip_if W k a i))) ≡ plus (times (plain_matrix (row_of f m n) x false) (s (flip_if W (differ false x) a i))) (times (plain_matrix (row_of f m n) x true) (s (flip_if W (differ true x) a i)))
  plain_at true m n a s i true = left_only m (s (W.flip a i)) (s i)
  plain_at true m n a s i false = right_only n (s i) (s (W.flip a i))
  plain_at false m n a s i true = right_only n (s (W.flip a i)) (s i)
  plain_at false m n a s i false = left_only m (s i) (s (W.flip a i))

  h_at : (a : ℕ) (s : W.At → Amplitude) (i : W.At) (x : Bool)
      → value (terms hadamard x x) (λ h k. s (flip_if W h a (flip_if W k a i))) ≡ plus (times (h_matrix x false) (s (flip_if W (differ false x) a i))) (times (h_matrix x true) (s (flip_if W (differ true x) a i)))
  h_at a s i true = sym (ap₂ plus (times_power 0 (s (W.flip a i))) (times_power 4 (s i)))
  h_at a s i false = sym (ap₂ plus (times_power 0 (s i)) (times_power 0 (s (W.flip a i))))

  cnot_at : (a b : ℕ) → a ≢ b → (s : W.At → Amplitude) (i : W.At) → applied W flip a b s i ≡ times_vector2 W cnot_matrix a b s i
  cnot_at a b ne s i =
      four (W.bit a i) (W.bit b i)
      ∙ sym (ap₂ plus (ap₂ plus (entry false false) (entry false true)) (ap₂ plus (entry true false) (entry true true)))
    where
      V : Bool → Bool → Bool → Bool → Amplitude
      V x y v u = s (flip_if W (differ v x) a (flip_if W (differ u y) b i))

      set2 : (v u : Bool) → s (with_bit W a v (with_bit W b u i)) ≡ V (W.bit a i) (W.bit b i) v u
      set2 v u = ap (λ (x : Bool). s (flip_if W (differ v x) a (with_bit W b u i))) (bit_move W (differ u (W.bit b i)) a b i ne)

      entry : (v u : Bool) → times (cnot_matrix (W.bit a i) (W.bit b i) v u) (s (with_bit W a v (with_bit W b u i))) ≡ times (cnot_matrix (W.bit a i) (W.bit b i) v u) (V (W.bit a i) (W.bit b i) v u)
      entry v u = ap (times (cnot_matrix (W.bit a i) (W.bit b i) v u)) (set2 v u)

      nothing : (y z : Amplitude) → plus (times nought y) (times nought z) ≡ nought
      nothing y z = ap₂ plus (times_nought y) (times_nought z)

      four : (x y : Bool) → s (flip_if W x b i) ≡ plus (plus (times (cnot_matrix x y false false) (V x y false false)) (times (cnot_matrix x y false true) (V x y false true))) (plus (times (cnot_matrix x y true false) (V x y true false)) (times (cnot_matrix x y true true) (V x y true true)))
      four false false = sym (ap₂ plus (sym (left_only 0 (V false false false false) (V false false false true))) (nothing (V false false true false) (V false false true true)) ∙ plus_nought (s i))
      four false true = sym (ap₂ plus (sym (right_only 0 (V false true false false) (V false true false true))) (nothing (V false true true false) (V false true true true)) ∙ plus_nought (s i))
      four true false = sym (ap₂ plus (nothing (V true false false false) (V true false false true)) (sym (right_only 0 (V true false true false) (V true false true true))) ∙ nought_plus (s (W.flip b i)))
      four true true = sym (ap₂ plus (nothing (V true true false false) (V true true false true)) (sym (left_only 0 (V true true true false) (V true true true true))) ∙ nought_plus (s (W.flip b i)))

  idle_at : (a : ℕ) (s : W.At → Amplitude) (i : W.At) (x : Bool)
      → s i ≡ plus (times (identity_matrix x false) (s (flip_if W (differ false x) a i))) (times (identity_matrix x true) (s (flip_if W (differ true x) a i)))
  idle_at a s i true = right_only 0 (s (W.flip a i)) (s i)
  idle_at a s i false = left_only 0 (s i) (s (W.flip a i))

  -- an action is its matrix, at any rows of the plain gates
  pub acted_multiplied : (rows : Plain → PlainRow) (x : Action) → Distinct x → (v : Vector W) → acted W rows x v ≡ multiplied W rows x v
  acted_multiplied rows (Action.One Single.H a) d v = fun_ext (λ i. h_at a v i (W.bit a i))
  acted_multiplied rows (Action.One (Single.Plain p) a) d v = fun_ext (λ i. plain_at (rows p).flips (rows p).turn0 (rows p).turn1 a v i (W.bit a i))
  acted_multiplied rows (Action.One Single.Read a) d v = fun_ext (λ i. idle_at a v i (W.bit a i))
  acted_multiplied rows (Action.Cnot a b) d v = fun_ext (λ i. cnot_at a b d v i)
