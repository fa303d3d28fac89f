-- The constant table of the plain gates. Assumes nothing.
use Rattle.std.specs.Prelude.{ℕ, Bool, true, false}
use Rattle.circuit.specs.declared.action.Plain.{Plain}
use Rattle.circuit.specs.declared.action.Single.{Single}
use Rattle.register.specs.declared.rows.PlainRow.{PlainRow}

-- a row: whether the wire is flipped, and the turns from 0 and from 1; a turn by n multiplies by ω to the n, where ω⁴ = −1
abbrev pub row_of : Bool → ℕ → ℕ → PlainRow
row_of f z o = record { flips = f; turn0 = z; turn1 = o }

-- the row of each plain gate
abbrev pub plain_row : Plain → PlainRow
plain_row Plain.X = row_of true 0 0
plain_row Plain.Y = row_of true 2 6
plain_row Plain.Z = row_of false 0 4
plain_row Plain.S = row_of false 0 2
plain_row Plain.T = row_of false 0 1

-- whether the kind flips its wire
abbrev pub flips : Single → Bool
flips Single.H = false
flips (Single.Plain p) = (plain_row p).flips
flips Single.Read = false
