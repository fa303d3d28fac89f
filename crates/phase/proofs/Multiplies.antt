-- Acting on a phase register is multiplying its vector by the action's matrix. Assumes nothing.
use Rattle.std.proofs.Common.{◌≡◌, ℕ, ◌+◌, true, false, refl, ap, ◌∙◌, arith}
use Rattle.std.proofs.lemmas.Bool.{false≢true}
use Rattle.circuit.specs.declared.action.Plain.{Plain}
use Rattle.circuit.specs.declared.action.Single.{Single}
use Rattle.circuit.specs.declared.action.Action.{Action}
use Rattle.circuit.specs.Actions.{is_h}
use Rattle.register.specs.declared.rows.PlainRow.{PlainRow}
use Rattle.register.specs.Models.{is_taken}
use Rattle.matrices.specs.Indices.{indices}
use Rattle.matrices.specs.Basis.{moved, turn_from}
use Rattle.basis.specs.IndexVectors.{index_vector}
use Rattle.basis.proofs.IndexVectors.{vector_multiplied, vector_mod}
use Rattle.phase.specs.Phases.{PhaseState, phase_acted, phase_takes}
use Rattle.phase.specs.Vectors.{phase_vector, PhaseMultiplies}

no_h : (x : Action) → is_taken phase_takes x ≡ true → is_h x ≡ false
no_h (Action.One Single.H a) e = absurd (false≢true e)
no_h (Action.One (Single.Plain p) a) e = refl
no_h (Action.One Single.Read a) e = refl
no_h (Action.Cnot a b) e = refl

unturned : (n j : ℕ) → index_vector n j ≡ index_vector (n + 0) j
unturned n j = let e : n ≡ n + 0 = omega arith in ap (λ k. index_vector k j) e

-- the vector after an action, by where its index moves and what it turns by
acted_vector : (rows : Plain → PlainRow) (x : Action) (s : PhaseState)
    → phase_vector (phase_acted rows x s) ≡ index_vector (s.turn + turn_from indices rows x s.bits) (moved indices rows x s.bits)
acted_vector rows (Action.One Single.H a) s = unturned s.turn s.bits
acted_vector rows (Action.One (Single.Plain p) a) s =
    let x = Action.One (Single.Plain p) a in
    vector_mod (s.turn + turn_from indices rows x s.bits) (moved indices rows x s.bits)
acted_vector rows (Action.One Single.Read a) s = unturned s.turn s.bits
acted_vector rows (Action.Cnot a b) s = unturned s.turn (moved indices rows (Action.Cnot a b) s.bits)

pub phase_multiplies : PhaseMultiplies
phase_multiplies rows x s f = acted_vector rows x s ∙ vector_multiplied rows x (no_h x f.taken) f.on_wires.distinct s.turn s.bits
