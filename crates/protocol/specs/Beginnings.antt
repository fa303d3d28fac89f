-- The first 81 bytes of a line say how it is answered: lemmas. Assumes nothing.
use Rattle.std.specs.Prelude.{ℕ, ◌≤◌, List, length, take, Option, Some, None}
use Rattle.std.proofs.Common.{sym, ap, ◌∙◌, arith, length-take, take_all}
use Rattle.command.specs.declared.command.Command.{Command}
use Rattle.command.specs.Commands.{CommandRead}
use Rattle.command.proofs.Letters.{texts_fit}
use Rattle.rules.specs.Bends.{one_bend}
use Rattle.protocol.specs.declared.text_session.TextSession.{TextSession}
use Rattle.book.specs.Books.{Book}
use Rattle.reply.specs.declared.reply.Reply.{Reply}
use Rattle.session.specs.Sessions.{session_book, LineAnswered, malformed, commanded}
use Rattle.protocol.specs.TextSessions.{TextAnswered}

-- a line says the command that its beginning says
beginning_read : (line : List ℕ) (o : Option Command) → CommandRead (take 81 line) o → CommandRead line o
beginning_read line None h = λ c t e.
    let fit = texts_fit c t in
    let short : length line ≤ 81 = omega (arith, ap length e) in
    h c t (take_all 81 line short ∙ e)
beginning_read line (Some c) h =
    let fit = texts_fit c h.0 in
    let short : length line ≤ 81 = omega (arith, ap length h.1, length-take 81 line) in
    (h.0, sym (take_all 81 line short) ∙ h.1)

-- a line is answered as its beginning is
of_beginning : (b c : Option Book) (n : ℕ) (line : List ℕ) (rs : List Reply) → LineAnswered one_bend b n (take 81 line) c rs → LineAnswered one_bend b n line c rs
of_beginning b c n line rs (malformed h) = malformed (beginning_read line None h)
of_beginning b c n line rs (commanded d x h k) = commanded d x (beginning_read line (Some d) h) k

pub beginning_answered : (s t : TextSession) (n : ℕ) (line bytes : List ℕ) → TextAnswered s n (take 81 line) t bytes → TextAnswered s n line t bytes
beginning_answered s t n line bytes a = (a.0, of_beginning (session_book s.session) (session_book t.session) n line a.0 a.1, a.2)
