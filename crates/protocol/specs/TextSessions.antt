-- The rows that a session of text holds, and how its lines are answered. Assumes nothing.
use Rattle.std.specs.Prelude.{◌≡◌, ℕ, ◌≤◌, List, [], length, take}
use Rattle.circuit.specs.declared.operation.Operation.{Operation}
use Rattle.plan.specs.declared.gate.AgendaEntry.{AgendaEntry}
use Rattle.rules.specs.Bends.{one_bend}
use Rattle.reply.specs.declared.reply.Reply.{Reply}
use Rattle.protocol.specs.declared.answer.Rows.{Rows}
use Rattle.protocol.specs.declared.text_session.TextSession.{TextSession}
use Rattle.session.specs.Sessions.{session_book, entry_rows, operation_rows, LineAnswered, printed}

-- the rows that stand in the first places
abbrev pub held_rows : Rows → List AgendaEntry → List Operation → List Reply
held_rows Rows.None es os = []
held_rows (Rows.Entries n) es os = entry_rows (take n es)
held_rows (Rows.Operations n) es os = operation_rows (take n os)

-- there are as many places as rows
abbrev pub RowsFit : Rows → List AgendaEntry → List Operation → Type 0
RowsFit Rows.None es os = Unit {0}
RowsFit (Rows.Entries n) es os = n ≤ length es
RowsFit (Rows.Operations n) es os = n ≤ length os

-- the first session may answer the line n by the bytes, and become the second
abbrev pub TextAnswered : TextSession → ℕ → List ℕ → TextSession → List ℕ → Type 0
TextAnswered s n line t bytes = (rs : List Reply) × LineAnswered one_bend (session_book s.session) n line (session_book t.session) rs × (bytes ≡ printed rs)
