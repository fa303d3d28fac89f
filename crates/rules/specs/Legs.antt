-- Legs of a bent way in the code. Assumes nothing.
use Rattle.std.specs.Prelude.{Bool, true, false}
use Rattle.rules.specs.declared.leg.Leg.{Leg}

-- the row comes first
abbrev pub is_row : Leg → Bool
is_row Leg.Row = true
is_row Leg.Column = false
