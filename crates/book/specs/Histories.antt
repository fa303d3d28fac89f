-- What each call writes, and the histories that calls make. Assumes nothing.
use Rattle.std.specs.Prelude.{◌≡◌, ℕ, Bool, true, false, List, Some, None, Option, slice_set}
use Rattle.circuit.specs.declared.action.Action.{Action}
use Rattle.circuit.specs.declared.operation.Operation.{Operation}
use Rattle.refusal.specs.declared.Refusal.{Refusal}
use Rattle.circuit.specs.Actions.{action_of}
use Rattle.route.specs.Routes.{Route}
use Rattle.plan.specs.Plans.{Plan}
use Rattle.plan.specs.Kept.{Kept}
use Rattle.plan.specs.Listings.{listing}
use Rattle.book.specs.Books.{Book, opening, with_calibration, with_homes, added, timed, timings_dropped}
use Rattle.book.specs.Calls.{Call, add, close, calibrate, place, time, try, judge, agenda, list, run, reopen, Callable}
use Rattle.book.specs.Refusals.{opening_refusal, refusal}

-- the plan with the action as its last gate, where there is one
abbrev pub added_or : Plan → Option Action → Plan
added_or p None = p
added_or p (Some x) = added p x

-- the plan that an accepted call writes
abbrev pub plan_after : Plan → Call → Plan
plan_after p (add letter l m) = added_or p (action_of letter l m)
plan_after p close = p
plan_after p (calibrate c v) = with_calibration p (slice_set p.calibration c v)
plan_after p (place l c) = with_homes p (slice_set p.homes l (Some c))
plan_after p (time g s c) = timed p g s c
plan_after p (try R g s c) = p
plan_after p (judge R) = p
plan_after p (agenda n) = p
plan_after p (list R n) = p
plan_after p (run r) = p
plan_after p reopen = timings_dropped p

-- whether the program is closed after an accepted call
abbrev pub closed_after : Bool → Call → Bool
closed_after b (add letter l m) = b
closed_after b close = true
closed_after b (calibrate c v) = b
closed_after b (place l c) = b
closed_after b (time g s c) = b
closed_after b (try R g s c) = b
closed_after b (judge R) = b
closed_after b (agenda n) = b
closed_after b (list R n) = b
closed_after b (run r) = b
closed_after b reopen = false

-- what an accepted call writes
abbrev pub written : Book → Call → Book
written b c = record { plan = plan_after b.plan c; closed = closed_after b.closed c }

-- the second book, unless refused
abbrev pub unless_refused : Option Refusal → Book → Book → Book
unless_refused (Some r) was then = was
unless_refused None was then = then

-- the book after a call; a refused one writes nothing
abbrev pub fed : Book → Call → Book
fed b c = unless_refused (refusal b c) b (written b c)

-- the histories of a job that end in a book: its opening, then the calls that its state allows, refused ones too
pub data History : Book → Type 0 where
  opened : (w h p : ℕ) → opening_refusal w h p ≡ None → History (opening w h p)
  called : {b : Book} → History b → (c : Call) → Callable b c → History (fed b c)

-- the operations were handed out by a listing in the history, under the rule, when the book was b
pub data HandedOut : (e : Book) → History e → Book → Route → List Operation → Type 0 where
  just_now : {b : Book} (h : History b) (R : Route) (places : ℕ) (a : Callable b (list R places)) → refusal b (list R places) ≡ None
      → HandedOut (fed b (list R places)) (called h (list R places) a) b R (listing b.plan R)
  before : {e b : Book} {h : History e} {R : Route} {ls : List Operation} (c : Call) (a : Callable e c) → HandedOut e h b R ls → HandedOut (fed e c) (called h c a) b R ls

-- every job's plan keeps what calls keep
abbrev pub HistoriesKeep : Type 0
HistoriesKeep = (b : Book) → History b → Kept b.plan
