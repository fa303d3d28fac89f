-- What each line of a job's text is answered. Assumes nothing.
use Rattle.std.specs.Prelude.{◌≡◌, ℕ, ◌⊎◌, Bool, not, cond, List, [], ◌∷◌, ◌++◌, length, drop, map, flat_map, is_ok, if◌then◌else◌, Option, Some, None, Result, Ok, Err}
use Rattle.refusal.specs.declared.Refusal.{Refusal}
use Rattle.circuit.specs.declared.operation.Operation.{Operation}
use Rattle.route.specs.Routes.{Route}
use Rattle.plan.specs.declared.gate.AgendaEntry.{AgendaEntry}
use Rattle.plan.specs.Plans.{Plan}
use Rattle.plan.specs.Listings.{listing, agenda as agenda_of}
use Rattle.book.specs.Books.{Book, opening}
use Rattle.job.specs.Jobs.{open_book, closed_book}
use Rattle.session.specs.declared.session.Session.{Session}
use Rattle.session.specs.Places.{agenda_places, listing_places}
use Rattle.book.specs.Calls.{Call, add, close, calibrate, place, time, try, judge, agenda, list, run, reopen, is_open_call}
use Rattle.book.specs.Refusals.{opening_refusal}
use Rattle.book.specs.Answers.{answer, opening_answer}
use Rattle.book.specs.Histories.{fed}
use Rattle.command.specs.declared.command.Command.{Command}
use Rattle.command.specs.Commands.{CommandRead}
use Rattle.reply.specs.declared.reply.Reply.{Reply}
use Rattle.reply.specs.Texts.{reply_text}

-- the program's state may take the call
abbrev pub may_call : Book → Call → Bool
may_call b c = cond b.closed (not (is_open_call c)) (is_open_call c)

-- the one reply to a command: its answer, or its refusal with the number of the line
abbrev pub reply_of : ℕ → Result ℕ Refusal → Reply
reply_of n (Ok x) = Reply.Ok x
reply_of n (Err r) = Reply.No r n

-- the rows, where the command is accepted
abbrev pub rows_if_ok : Result ℕ Refusal → List Reply → List Reply
rows_if_ok (Ok x) rows = rows
rows_if_ok (Err r) rows = []

-- the new book, where opening is not refused; else what was there
abbrev pub opened_or : Option Refusal → Option Book → Book → Option Book
opened_or (Some r) s b = s
opened_or None s b = Some b

-- what a command asks for: a new job, or a call on the job that there is
pub data Request : Type 0 where
  begin : (columns rows labels : ℕ) → Request
  on_job : Call → Request

-- the book of the job that there is, if there is one
abbrev pub session_book : Session → Option Book
session_book Session.NoJob = None
session_book (Session.Open j) = Some (open_book j)
session_book (Session.Closed j) = Some (closed_book j)

-- what a call is answered: refused where there is no job, or the program is in the other state
abbrev pub call_answer : Option Book → Call → Result ℕ Refusal
call_answer None k = Err Refusal.WrongState
call_answer (Some b) k = cond (may_call b k) (answer b k) (Err Refusal.WrongState)

-- the job after a call
abbrev pub call_after : Option Book → Call → Option Book
call_after None k = None
call_after (Some b) k = Some (cond (may_call b k) (fed b k) b)

-- what a request is answered; a new job begins in any state
abbrev pub request_answer : Option Book → Request → Result ℕ Refusal
request_answer s (begin w h p) = opening_answer w h p
request_answer s (on_job k) = call_answer s k

-- the job after a request; a refused opening leaves the job that there was
abbrev pub request_after : Option Book → Request → Option Book
request_after s (begin w h p) = opened_or (opening_refusal w h p) s (opening w h p)
request_after s (on_job k) = call_after s k

-- a new job wants memory, and where there is none nothing changes
abbrev pub WantsMemory : Option Book → Request → Option Book → Result ℕ Refusal → Type 0
WantsMemory s (begin w h p) t a = (opening_refusal w h p ≡ None) × (t ≡ s) × (a ≡ Err Refusal.NoMemory)
WantsMemory s (on_job k) t a = ⊥

-- the answer is that to what is asked, and the job goes from the first to the second
abbrev pub Answered : Option Book → Request → Option Book → Result ℕ Refusal → Type 0
Answered s q t a = ((t ≡ request_after s q) × (a ≡ request_answer s q)) ⊎ WantsMemory s q t a

-- the rows of an agenda
abbrev pub entry_rows : List AgendaEntry → List Reply
entry_rows es = map Reply.Entry es

-- the rows of a listing
abbrev pub operation_rows : List Operation → List Reply
operation_rows os = map Reply.Operation os

-- the agenda of the job that there is
abbrev pub book_agenda : Option Book → List AgendaEntry
book_agenda None = []
book_agenda (Some b) = agenda_of b.plan

-- the listing of the job that there is, under the rule
abbrev pub book_listing : Route → Option Book → List Operation
book_listing R None = []
book_listing R (Some b) = listing b.plan R

-- what places hold after a call that writes so many of them: these in the first places and all others as they were, or all as they were where it is refused
abbrev pub rows_written : {X : Type 0} → Result ℕ Refusal → List X → List X → List X
rows_written answer xs was = if is_ok answer then xs ++ drop (length xs) was else was

-- the rows that follow an accepted call: those of the agenda, or of the listing
abbrev pub plan_rows : Plan → Call → List Reply
plan_rows p (add letter l m) = []
plan_rows p close = []
plan_rows p (calibrate c v) = []
plan_rows p (place l c) = []
plan_rows p (time g s c) = []
plan_rows p (try R g s c) = []
plan_rows p (judge R) = []
plan_rows p (agenda n) = entry_rows (agenda_of p)
plan_rows p (list R n) = operation_rows (listing p R)
plan_rows p (run r) = []
plan_rows p reopen = []

-- the same of the job that there is
abbrev pub call_rows : Option Book → Call → List Reply
call_rows None k = []
call_rows (Some b) k = plan_rows b.plan k

-- the rows that follow an accepted request
abbrev pub request_rows : Option Book → Request → List Reply
request_rows s (begin w h p) = []
request_rows s (on_job k) = call_rows s k

-- the replies to a request on the line n
abbrev pub request_replies : ℕ → Result ℕ Refusal → List Reply → List Reply
request_replies n a rows = reply_of n a ∷ rows_if_ok a rows

-- what a command asks for under the rule
abbrev pub request_of : Route → Command → Request
request_of R (Command.Open w h p) = begin w h p
request_of R (Command.Add l a b) = on_job (add l a b)
request_of R Command.Close = on_job close
request_of R Command.Reopen = on_job reopen
request_of R (Command.Calibrate c v) = on_job (calibrate c v)
request_of R (Command.Place l c) = on_job (place l c)
request_of R (Command.Time g s c) = on_job (time g s c)
request_of R (Command.Try g s c) = on_job (try R g s c)
request_of R Command.Judge = on_job (judge R)
request_of R Command.Agenda = on_job (agenda agenda_places)
request_of R Command.List = on_job (list R listing_places)

-- the line n gives the replies, and the job goes from the first to the second
pub data LineAnswered (R : Route) : Option Book → ℕ → List ℕ → Option Book → List Reply → Type 0 where
  malformed : {s : Option Book} {n : ℕ} {line : List ℕ} → CommandRead line None → LineAnswered R s n line s (Reply.No Refusal.MalformedLine n ∷ [])
  commanded : {s t : Option Book} {n : ℕ} {line : List ℕ} (c : Command) (a : Result ℕ Refusal) → CommandRead line (Some c) → Answered s (request_of R c) t a → LineAnswered R s n line t (request_replies n a (request_rows s (request_of R c)))

-- a reply as it is printed, with its line feed
abbrev pub line_of : Reply → List ℕ
line_of r = reply_text r ++ 10 ∷ []

-- the replies as they are printed
abbrev pub printed : List Reply → List ℕ
printed rs = flat_map line_of rs
