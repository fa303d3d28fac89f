-- What the program prints. Assumes nothing.
use Rattle.std.specs.Prelude.{ℕ, List, [], ◌∷◌, ◌++◌, codes, decimal, Option, Some, None}
use Rattle.refusal.specs.Texts.{refusal_text}
use Rattle.circuit.specs.declared.operation.Operation.{Operation}
use Rattle.circuit.specs.Actions.{letter_of, first_wire, second_wire}
use Rattle.plan.specs.declared.gate.AgendaEntry.{AgendaEntry}
use Rattle.reply.specs.declared.reply.Reply.{Reply}

-- the texts, parted by single spaces
abbrev pub spaced_texts : List (List ℕ) → List ℕ
spaced_texts [] = []
spaced_texts (t ∷ []) = t
spaced_texts (t ∷ u ∷ us) = t ++ (codes " " ++ spaced_texts (u ∷ us))

-- the second cell of an operation, or a dash where there is none
abbrev pub cell_or_dash : Option ℕ → List ℕ
cell_or_dash None = codes "-"
cell_or_dash (Some c) = decimal c

-- a line of the agenda: a gate's start and number
abbrev pub entry_text : AgendaEntry → List ℕ
entry_text e = spaced_texts (decimal e.start ∷ decimal e.gate ∷ [])

-- a line of the listing: start, length, kind, cell, second cell, gate
abbrev pub operation_text : Operation → List ℕ
operation_text o =
    spaced_texts (decimal o.start ∷ decimal o.length ∷ (letter_of o.action ∷ []) ∷ decimal (first_wire o.action) ∷ cell_or_dash (second_wire o.action) ∷ decimal o.gate ∷ [])

-- a printed line, without its line feed
abbrev pub reply_text : Reply → List ℕ
reply_text (Reply.Ok n) = spaced_texts (codes "ok" ∷ decimal n ∷ [])
reply_text (Reply.No r l) = spaced_texts (codes "no" ∷ refusal_text r ∷ decimal l ∷ [])
reply_text (Reply.Entry e) = entry_text e
reply_text (Reply.Operation o) = operation_text o
