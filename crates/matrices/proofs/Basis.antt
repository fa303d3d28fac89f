-- Actions without H bring a vector at one assignment to one at another. Assumes nothing.
use Rattle.std.proofs.Common.{◌≡◌, ℕ, ◌+◌, Bool, true, false, not, cond, ◌≢◌, refl, sym, ap, ap₂, ◌∙◌, subst, true≢false, add_comm}
use Rattle.circuit.specs.declared.action.Plain.{Plain}
use Rattle.circuit.specs.declared.action.Single.{Single}
use Rattle.circuit.specs.declared.action.Action.{Action}
use Rattle.circuit.specs.Actions.{Distinct, is_h}
use Rattle.register.specs.declared.rows.PlainRow.{PlainRow}
use Rattle.matrices.specs.Numbers.{unit, turned, omega_power}
use Rattle.matrices.specs.Assignments.{Assignments, differ, flip_if, controlled}
use Rattle.matrices.specs.Matrices.{Vector, multiplied}
use Rattle.matrices.specs.Gates.{acted}
use Rattle.matrices.specs.Basis.{Basis, moved, turn_from}
use Rattle.matrices.proofs.Numbers.{turned_add, turned_nought}
use Rattle.matrices.proofs.Swaps.{bit_move}
use Rattle.matrices.proofs.Matrices.{acted_multiplied}

differ_twice : (f x : Bool) → differ f (differ f x) ≡ x
differ_twice true true = refl
differ_twice true false = refl
differ_twice false true = refl
differ_twice false false = refl

module _ (W : Assignments) where
  moved_back : (f : Bool) (a : ℕ) (i : W.At) → flip_if W f a (flip_if W f a i) ≡ i
  moved_back true a i = W.flip_twice a i
  moved_back false a i = refl

  bit_moved : (f : Bool) (a : ℕ) (i : W.At) → differ f (W.bit a (flip_if W f a i)) ≡ W.bit a i
  bit_moved true a i = ap (differ true) (W.bit_same a i) ∙ go (W.bit a i)
    where
      go : (x : Bool) → differ true (not x) ≡ x
      go true = refl
      go false = refl
  bit_moved false a i = go (W.bit a i)
    where
      go : (x : Bool) → differ false x ≡ x
      go true = refl
      go false = refl

  controlled_back : (a b : ℕ) → a ≢ b → (i : W.At) → controlled W a b (controlled W a b i) ≡ i
  controlled_back a b ne i = ap (λ (x : Bool). flip_if W x b (controlled W a b i)) (bit_move W (W.bit a i) a b i ne) ∙ moved_back (W.bit a i) b i

  -- a term that takes its entry from where a move of its own inverse brings it
  basis_turned : (back : W.At → W.At) → ((i : W.At) → back (back i) ≡ i) → (turn : W.At → ℕ) (m n : ℕ) (j : W.At) (v : Vector W) → turn (back j) ≡ m → Basis W n j v
      → Basis W (n + m) (back j) (λ i. turned (turn i) (v (back i)))
  basis_turned back twice turn m n j v e b = record {
    here = ap₂ (λ (k : ℕ) (i : W.At). turned k (v i)) e (twice j) ∙ ap (turned m) b.here ∙ sym (turned_add m n unit) ∙ ap omega_power (add_comm m n);
    elsewhere = λ i ne. ap (turned (turn i)) (b.elsewhere (back i) (λ q. ne (sym (twice i) ∙ ap back q))) ∙ turned_nought (turn i);
  }

  basis_acted : (rows : Plain → PlainRow) (x : Action) → is_h x ≡ false → Distinct x → (n : ℕ) (j : W.At) (v : Vector W) → Basis W n j v
      → Basis W (n + turn_from W rows x j) (moved W rows x j) (acted W rows x v)
  basis_acted rows (Action.One Single.H a) q d n j v b = absurd (true≢false q)
  basis_acted rows (Action.One (Single.Plain p) a) q d n j v b =
      let f = (rows p).flips in
      basis_turned (flip_if W f a) (moved_back f a) (λ i. cond (differ f (W.bit a i)) (rows p).turn1 (rows p).turn0) (turn_from W rows (Action.One (Single.Plain p) a) j) n j v
      (ap (λ (x : Bool). cond x (rows p).turn1 (rows p).turn0) (bit_moved f a j)) b
  basis_acted rows (Action.One Single.Read a) q d n j v b = basis_turned (λ i. i) (λ i. refl) (λ i. 0) 0 n j v refl b
  basis_acted rows (Action.Cnot a b) q d n j v h = basis_turned (controlled W a b) (controlled_back a b d) (λ i. 0) 0 n j v refl h

  -- multiplying by the matrix of an action other than H
  pub basis_multiplied : (rows : Plain → PlainRow) (x : Action) → is_h x ≡ false → Distinct x → (n : ℕ) (j : W.At) (v : Vector W) → Basis W n j v
      → Basis W (n + turn_from W rows x j) (moved W rows x j) (multiplied W rows x v)
  basis_multiplied rows x q d n j v b = subst (λ (u : Vector W). Basis W (n + turn_from W rows x j) (moved W rows x j) u) (acted_multiplied W rows x d v) (basis_acted rows x q d n j v b)
