-- Multiplying a vector at one index by the matrix of an action other than H. Assumes nothing.
use Rattle.std.proofs.Common.{◌≡◌, ℕ, ◌+◌, ◌%◌, cond, false, refl, sym, ap, ◌∙◌, eqb, eq-eqb, ne_eqb}
use Rattle.std.proofs.Math.Path.{fun_ext}
use Rattle.circuit.specs.declared.action.Plain.{Plain}
use Rattle.circuit.specs.declared.action.Action.{Action}
use Rattle.circuit.specs.Actions.{is_h, Distinct}
use Rattle.register.specs.declared.rows.PlainRow.{PlainRow}
use Rattle.matrices.specs.Numbers.{nought, unit, omega_power}
use Rattle.matrices.specs.Indices.{indices}
use Rattle.matrices.specs.Matrices.{Vector, multiplied}
use Rattle.matrices.specs.Basis.{Basis, moved, turn_from}
use Rattle.matrices.proofs.Numbers.{turned_mod}
use Rattle.matrices.proofs.Swaps.{by_eq}
use Rattle.matrices.proofs.Basis.{basis_multiplied}
use Rattle.basis.specs.IndexVectors.{index_vector}

at_index : (n j : ℕ) → Basis indices n j (index_vector n j)
at_index n j = record {
  here = ap (λ c. cond c (omega_power n) nought) (eq-eqb j j refl);
  elsewhere = λ i ne. ap (λ c. cond c (omega_power n) nought) (ne_eqb i j ne);
}

-- there is one such vector
the_one : (n j : ℕ) (v : Vector indices) → Basis indices n j v → index_vector n j ≡ v
the_one n j v b =
    let a = at_index n j in
    fun_ext (λ i. by_eq i j (λ e. ap (index_vector n j) e ∙ a.here ∙ sym b.here ∙ ap v (sym e)) (λ ne. a.elsewhere i ne ∙ sym (b.elsewhere i ne)))

-- the index moves as the action says, and the turn grows by what it turns
pub vector_multiplied : (rows : Plain → PlainRow) (x : Action) → is_h x ≡ false → Distinct x → (n j : ℕ)
    → index_vector (n + turn_from indices rows x j) (moved indices rows x j) ≡ multiplied indices rows x (index_vector n j)
vector_multiplied rows x q d n j =
    the_one (n + turn_from indices rows x j) (moved indices rows x j) (multiplied indices rows x (index_vector n j)) (basis_multiplied indices rows x q d n j (index_vector n j) (at_index n j))

-- turns that are the same modulo 8 give the same vector
pub vector_mod : (n j : ℕ) → index_vector (n % 8) j ≡ index_vector n j
vector_mod n j = fun_ext (λ i. ap (λ z. cond (eqb i j) z nought) (turned_mod n unit))
