-- Commands answered one after another. Assumes nothing.
use Rattle.std.proofs.Common.{rules, ℕ, List, [], ◌∷◌, Option, Some, None, refl, inl}
use Rattle.std.specs.Fmt.{digits}
use Rattle.std.specs.List.{AllByRecursion as All}
use Rattle.rules.specs.Bends.{one_bend}
use Rattle.dialogue.specs.Dialogues.{Dialogue, over, line, next_number}
use Rattle.lines.specs.Lines.{lines_of}
use Rattle.book.specs.Books.{Book}
use Rattle.command.specs.declared.command.Command.{Command}
use Rattle.command.specs.Commands.{HasText}
use Rattle.session.specs.Sessions.{request_of, request_answer, commanded}
use Rattle.reply.specs.declared.reply.Reply.{Reply}
use Rattle.session.specs.Sessions.{request_after, request_rows, request_replies, printed}
use Rattle.command.specs.Commands.{command_text}
use Rattle.std.specs.Prelude.{◌++◌}
use Rattle.cases.specs.Jobs.{values, distant_book}
use Rattle.cases.specs.Scripts.{BookAnswered, distant_input, distant_output}

-- the lines of commands
abbrev command_lines : List Command → List (List ℕ)
command_lines [] = []
command_lines (c ∷ cs) = command_text c ∷ command_lines cs

-- the book after a command, where there is memory
abbrev book_after : Option Book → Command → Option Book
book_after b c = request_after b (request_of one_bend c)

-- the replies to a command on the line n
abbrev command_replies : Option Book → ℕ → Command → List Reply
command_replies b n c = request_replies n (request_answer b (request_of one_bend c)) (request_rows b (request_of one_bend c))

-- the book after commands
abbrev book_after_all : Option Book → List Command → Option Book
book_after_all b [] = b
book_after_all b (c ∷ cs) = book_after_all (book_after b c) cs

-- what is printed to commands, the first of which is the line n
abbrev printed_to : Option Book → ℕ → List Command → List ℕ
printed_to b n [] = []
printed_to b n (c ∷ cs) = printed (command_replies b n c) ++ printed_to (book_after b c) (next_number n) cs

-- the commands of the job of a CNOT over two links
abbrev distant_commands : List Command
distant_commands =
    Command.Open 3 1 2 ∷ Command.Add 67 0 1 ∷ Command.Close ∷ Command.Calibrate 0 (values 1 1 100 2 0) ∷ Command.Calibrate 1 (values 1 1 100 3 0)
    ∷ Command.Place 0 0 ∷ Command.Place 1 2 ∷ Command.Time 0 5 0 ∷ Command.Judge ∷ Command.List ∷ []

-- the lines of commands that have texts are answered by what is printed to these
answered_all : (b : Option Book) (n : ℕ) (cs : List Command) → All HasText cs → Dialogue BookAnswered b n (command_lines cs) (book_after_all b cs) (printed_to b n cs)
answered_all b n [] h = over
answered_all b n (c ∷ cs) h =
    line (command_replies b n c, commanded c (request_answer b (request_of one_bend c)) (h.0, refl) (inl (refl, refl)), refl)
    (answered_all (book_after b c) (next_number n) cs h.1)

distant_texts : All HasText distant_commands
distant_texts = search rules

pub distant_answered : Dialogue BookAnswered None 1 (lines_of distant_input) (Some distant_book) distant_output
unfolding digits
distant_answered = answered_all None 1 distant_commands distant_texts
