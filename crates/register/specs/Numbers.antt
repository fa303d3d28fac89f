-- The numbers that a telling register tells, one for each wire: they change by the actions alone. Assumes nothing.
use Rattle.std.specs.Prelude.{◌≡◌, ℕ, ◌<◌, Bool, cond, List, [], ◌∷◌, ◌==◌, bit_xor}
use Rattle.circuit.specs.declared.action.Action.{Action}
use Rattle.circuit.specs.declared.operation.Operation.{Operation}
use Rattle.circuit.specs.declared.operation.Reading.{Reading}
use Rattle.register.specs.Rows.{flips}
use Rattle.circuit.specs.Actions.{first_wire, is_read}
use Rattle.circuit.specs.Operations.{reading}
use Rattle.register.specs.Models.{Model, Fit}

-- the row with v at wire t
abbrev pub write : ℕ → ℕ → (ℕ → ℕ) → ℕ → ℕ
write t v row w = cond (w == t) v (row w)

-- the row with the mark joined to wire a, where it flips
abbrev pub marked : Bool → ℕ → ℕ → (ℕ → ℕ) → ℕ → ℕ
marked flip mark a row = cond flip (write a (bit_xor mark (row a)) row) row

-- a CNOT makes the target's number the exclusive or of both, a gate that flips exclusive-ors the wire's with the mark, and nothing else changes a number
abbrev pub renumbered : ℕ → Action → (ℕ → ℕ) → ℕ → ℕ
renumbered mark (Action.One k a) row = marked (flips k) mark a row
renumbered mark (Action.Cnot a b) row = write b (bit_xor (row a) (row b)) row

-- for each read, in the order of the operations, its gate and the number then told
abbrev pub tells : ℕ → List Operation → (ℕ → ℕ) → List Reading
tells mark [] row = []
tells mark (o ∷ os) row =
    let rest = tells mark os (renumbered mark o.action row) in
    cond (is_read o.action) (reading o.gate (row (first_wire o.action)) ∷ rest) rest

-- what a telling register keeps: whenever the state of y is that of x after an action, so are the numbers
abbrev pub Renumbers : (M : Model) {S : Type 0} → (S → M.State) → ℕ → (S → ℕ → ℕ) → Type 0
Renumbers M {S} state mark numbers = (x y : S) (a : Action) → Fit (M.size (state x)) M.takes a → state y ≡ M.act a (state x)
    → (w : ℕ) → w < M.size (state x) → numbers y w ≡ renumbered mark a (numbers x) w
