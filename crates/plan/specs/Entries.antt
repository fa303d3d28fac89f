-- Agenda entries and their order. Assumes nothing.
use Rattle.std.specs.Prelude.{ℕ, Bool, List, [], ◌∷◌}
use Rattle.orders.specs.Ranks.{by_key}
use Rattle.plan.specs.declared.gate.AgendaEntry.{AgendaEntry}

-- an entry's fields in the order in which entries are compared: start, then gate number
abbrev pub entry_key : AgendaEntry → List ℕ
entry_key e = e.start ∷ e.gate ∷ []

-- the first entry comes before the second
abbrev pub entry_before : AgendaEntry → AgendaEntry → Bool
entry_before = by_key entry_key
