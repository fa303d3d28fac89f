-- What each call answers. Assumes nothing.
use Rattle.std.specs.Prelude.{ℕ, ◌*◌, length, Result}
use Rattle.refusal.specs.declared.Refusal.{Refusal}
use Rattle.refusal.specs.Refusals.{ok_unless}
use Rattle.circuit.specs.Operations.{read_count}
use Rattle.plan.specs.Plans.{Plan, gate_count}
use Rattle.plan.specs.Blocks.{direct}
use Rattle.plan.specs.Verdicts.{latest_end}
use Rattle.plan.specs.Listings.{listing, agenda as agenda_of}
use Rattle.book.specs.Books.{Book, timed}
use Rattle.book.specs.Calls.{Call, add, close, calibrate, place, time, try, judge, agenda, list, run, reopen}
use Rattle.book.specs.Refusals.{refusal, opening_refusal}

-- what an accepted call answers: the gate added, the gates, the first argument, the latest end, the lines written, the reads
abbrev pub ok_answer : Plan → Call → ℕ
ok_answer p (add letter l m) = gate_count p
ok_answer p close = gate_count p
ok_answer p (calibrate c v) = c
ok_answer p (place l c) = l
ok_answer p (time g s c) = g
ok_answer p (try R g s c) = latest_end (timed p g s c) R
ok_answer p (judge R) = latest_end p R
ok_answer p (agenda n) = length (agenda_of p)
ok_answer p (list R n) = length (listing p R)
ok_answer p (run r) = read_count (direct p)
ok_answer p reopen = gate_count p

-- what a call answers
abbrev pub answer : Book → Call → Result ℕ Refusal
answer b c = ok_unless (refusal b c) (ok_answer b.plan c)

-- what opening answers: the number of cells
abbrev pub opening_answer : ℕ → ℕ → ℕ → Result ℕ Refusal
opening_answer w h p = ok_unless (opening_refusal w h p) (h * w)
