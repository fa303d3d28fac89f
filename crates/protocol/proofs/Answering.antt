-- What is printed answers the line. Assumes nothing.
use Rattle.std.proofs.Common.{◌≡◌, ℕ, List, [], ◌∷◌, ◌++◌, Option, Ok, Err, Result, sym, ap, ◌∙◌, append-nil}
use Rattle.std.specs.Result.{OnOk}
use Rattle.std.specs.Io.KnownBytes.{Appends}
use Rattle.refusal.specs.declared.Refusal.{Refusal}
use Rattle.rules.specs.Bends.{one_bend}
use Rattle.command.specs.declared.command.Command.{Command}
use Rattle.command.specs.Commands.{IsTextOf}
use Rattle.reply.specs.declared.reply.Reply.{Reply}
use Rattle.dialogue.proofs.Going.{appends_both}
use Rattle.protocol.specs.declared.text_session.TextSession.{TextSession}
use Rattle.session.specs.Sessions.{session_book, reply_of, rows_if_ok, request_of, request_rows, request_replies, Answered, malformed, commanded, line_of, printed}
use Rattle.protocol.specs.TextSessions.{TextAnswered}

pub on_ok : {T E P Q : Type 0} (r : Result T E) → (P → Q) → OnOk r P → OnOk r Q
on_ok (Ok x) f p = f p
on_ok (Err e) f p = tt

-- the line n is answered by bytes that were written
abbrev pub Said : TextSession → ℕ → List ℕ → TextSession → Option (List ℕ) → Option (List ℕ) → Type 0
Said s n line t was now = (x : List ℕ) × TextAnswered s n line t x × Appends was now x

-- a line that says no command
pub malformed_said : (s : TextSession) (n : ℕ) (line : List ℕ) (r : Refusal) (was now : Option (List ℕ))
    → (r ≡ Refusal.MalformedLine) × ((c : Command) → IsTextOf c line → ⊥) → Appends was now (line_of (Reply.No r n)) → Said s n line s was now
malformed_said s n line r was now h p = (
  line_of (Reply.No r n),
  (Reply.No Refusal.MalformedLine n ∷ [], malformed (λ c t e. h.1 c (t, e)), ap (λ q. line_of (Reply.No q n)) h.0 ∙ sym (append-nil (line_of (Reply.No Refusal.MalformedLine n)))),
  p,
)

-- a line that says one
pub command_said : (s t : TextSession) (n : ℕ) (line : List ℕ) (c : Command) (a : Result ℕ Refusal) (first : Reply) (rows : List Reply) (was mid now : Option (List ℕ))
    → IsTextOf c line → Answered (session_book s.session) (request_of one_bend c) (session_book t.session) a
    → first ≡ reply_of n a → rows_if_ok a (request_rows (session_book s.session) (request_of one_bend c)) ≡ rows
    → Appends was mid (line_of first) → Appends mid now (printed rows) → Said s n line t was now
command_said s t n line c a first rows was mid now h k e f p q = (
  line_of first ++ printed rows,
  (request_replies n a (request_rows (session_book s.session) (request_of one_bend c)), commanded c a h k, λ i. line_of (e i) ++ printed (sym f i)),
  appends_both was mid now (line_of first) (printed rows) p q,
)
