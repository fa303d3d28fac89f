-- There is a history, and a listing handed out in it. Assumes nothing.
use Rattle.std.proofs.Common.{◌≡◌, List, [], ◌∷◌, refl, subst}
use Rattle.rules.specs.Bends.{one_bend}
use Rattle.circuit.specs.declared.operation.Operation.{Operation}
use Rattle.plan.specs.Listings.{listing}
use Rattle.book.specs.Books.{Book, opening}
use Rattle.book.specs.Calls.{Call, list, Callable}
use Rattle.book.specs.Histories.{fed, History, opened, called, HandedOut, just_now}
use Rattle.cases.specs.Jobs.{fed_all, distant, distant_book}

-- each call is allowed when it is made
abbrev AllCallable : Book → List Call → Type 0
AllCallable b [] = Unit {0}
AllCallable b (c ∷ cs) = Callable b c × AllCallable (fed b c) cs

-- a history with calls after it
history_of : (b : Book) → History b → (cs : List Call) → AllCallable b cs → History (fed_all b cs)
history_of b h [] a = h
history_of b h (c ∷ cs) a = history_of (fed b c) (called h c a.0) cs a.1

distant_history : History distant_book
distant_history = history_of (opening 3 1 2) (opened 3 1 2 refl) distant (refl, (refl, (refl, (refl, (refl, (refl, (refl, tt)))))))

-- what the job's listing is, is handed out in a history
pub distant_handed_out : (os : List Operation) → listing distant_book.plan one_bend ≡ os → (e : Book) × (h : History e) × HandedOut e h distant_book one_bend os
distant_handed_out os same =
    subst (λ os. (e : Book) × (h : History e) × HandedOut e h distant_book one_bend os) same (fed distant_book (list one_bend 7), called distant_history (list one_bend 7) refl, just_now distant_history one_bend 7 refl refl)
