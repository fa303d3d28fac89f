-- An agenda and a listing leave the job as it was. Assumes nothing.
use Rattle.std.proofs.Common.{◌≡◌, ℕ, Bool, true, false, cond, Option, Some, None, refl, ap}
use Rattle.refusal.specs.declared.Refusal.{Refusal}
use Rattle.route.specs.Routes.{Route}
use Rattle.book.specs.Books.{Book}
use Rattle.book.specs.Calls.{agenda, list}
use Rattle.book.specs.Refusals.{refusal}
use Rattle.book.specs.Histories.{unless_refused}
use Rattle.session.specs.Sessions.{call_after, may_call}

same : (t : Bool) (r : Option Refusal) (b : Book) → cond t (unless_refused r b b) b ≡ b
same true (Some r) b = refl
same true None b = refl
same false r b = refl

pub agenda_keeps : (s : Option Book) (n : ℕ) → call_after s (agenda n) ≡ s
agenda_keeps None n = refl
agenda_keeps (Some b) n = ap Some (same (may_call b (agenda n)) (refusal b (agenda n)) b)

pub list_keeps : (s : Option Book) (R : Route) (n : ℕ) → call_after s (list R n) ≡ s
list_keeps None R n = refl
list_keeps (Some b) R n = ap Some (same (may_call b (list R n)) (refusal b (list R n)) b)
