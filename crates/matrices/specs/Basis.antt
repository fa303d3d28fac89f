-- Vectors that are ω to some turn at one assignment and 0 elsewhere. Assumes nothing.
use Rattle.std.specs.Prelude.{◌≡◌, ℕ, cond, ◌≢◌}
use Rattle.circuit.specs.declared.action.Plain.{Plain}
use Rattle.circuit.specs.declared.action.Single.{Single}
use Rattle.circuit.specs.declared.action.Action.{Action}
use Rattle.register.specs.declared.rows.PlainRow.{PlainRow}
use Rattle.matrices.specs.Numbers.{nought, omega_power}
use Rattle.matrices.specs.Assignments.{Assignments, flip_if, controlled}
use Rattle.matrices.specs.Matrices.{Vector}

module _ (W : Assignments) where
  -- ω to the n at the assignment j, 0 elsewhere
  pub record Basis (n : ℕ) (j : W.At) (v : Vector W) : Type 0 where
    pub here : v j ≡ omega_power n
    pub elsewhere : (i : W.At) → i ≢ j → v i ≡ nought

  -- where an action other than H brings an assignment
  abbrev pub moved : (Plain → PlainRow) → Action → W.At → W.At
  moved rows (Action.One Single.H a) j = j
  moved rows (Action.One (Single.Plain p) a) j = flip_if W (rows p).flips a j
  moved rows (Action.One Single.Read a) j = j
  moved rows (Action.Cnot a b) j = controlled W a b j

  -- and by how much it turns it
  abbrev pub turn_from : (Plain → PlainRow) → Action → W.At → ℕ
  turn_from rows (Action.One Single.H a) j = 0
  turn_from rows (Action.One (Single.Plain p) a) j = cond (W.bit a j) (rows p).turn1 (rows p).turn0
  turn_from rows (Action.One Single.Read a) j = 0
  turn_from rows (Action.Cnot a b) j = 0
