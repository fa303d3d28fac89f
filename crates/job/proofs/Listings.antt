-- What agenda and listing of a job answer, in the words of the book, and what its listing is good for. Assumes nothing.
use Rattle.std.proofs.Common.{◌≡◌, ℕ, ◌++◌, Bool, true, List, drop, take, length, is_ok, ltb, None, Some, Ok, Err, Option, Result, sym, ap, ◌∙◌, subst, refl, le-ltb}
use Rattle.std.specs.Bool.{if◌then◌else◌}
use Rattle.std.specs.Result.{IfOk}
use Rattle.std.proofs.Math.Seq.{take-append_seam}
use Rattle.circuit.specs.declared.operation.Operation.{Operation}
use Rattle.refusal.specs.declared.Refusal.{Refusal}
use Rattle.refusal.specs.Refusals.{refuse_if, or_else, ok_unless}
use Rattle.refusal.proofs.Accepted.{neither, accepted}
use Rattle.route.specs.Routes.{Route, RouteLawful}
use Rattle.plan.specs.Plans.{Plan, gate_count}
use Rattle.plan.specs.Kept.{Kept}
use Rattle.plan.specs.Verdicts.{first_broken}
use Rattle.plan.specs.Listings.{listing, agenda as agenda_of}
use Rattle.agenda.specs.Agendas.{gate_agenda, agenda_refusal}
use Rattle.lister.specs.Blocks.{listing_refusal}
use Rattle.lister.proofs.FirstBlocks.{ok_value}
use Rattle.register.specs.Models.{Model}
use Rattle.book.specs.Books.{Book}
use Rattle.book.specs.Calls.{agenda, list}
use Rattle.book.specs.Refusals.{refusal}
use Rattle.book.specs.Answers.{answer}
use Rattle.book.specs.Histories.{History, unless_refused}
use Rattle.book.proofs.Merely.{kept_merely}
use Rattle.store.specs.declared.store.Store.{Store}
use Rattle.store.specs.Stores.{store_plan, store_book}
use Rattle.promise.specs.Promises.{Stands}
use Rattle.promise.proofs.Whole.{stands_for}

-- what writes nothing leaves the book
pub nothing_written : (b : Book) (o : Option Refusal) → b ≡ unless_refused o b b
nothing_written b None = refl
nothing_written b (Some r) = refl

-- the agenda of a job's gates is refused as the book says
pub agenda_kept : (p : Plan) (closed : Bool) (n : ℕ) → Kept p → agenda_refusal p.gates n ≡ refusal (record { plan = p; closed = closed }) (agenda n)
agenda_kept p closed n k = ap (λ t. or_else (refuse_if t Refusal.ProgramFull) (refuse_if (ltb n (length (agenda_of p))) Refusal.TooFewPlaces)) (le-ltb 256 (gate_count p) k.few_gates)

-- the listing of a job's plan is refused as the book says
pub listed_kept : (p : Plan) (R : Route) (closed : Bool) (n : ℕ) → Kept p → listing_refusal p R n ≡ refusal (record { plan = p; closed = closed }) (list R n)
listed_kept p R closed n k =
    ap (λ t. or_else (or_else (refuse_if t Refusal.ProgramFull) (first_broken p R)) (refuse_if (ltb n (length (listing p R))) Refusal.TooFewPlaces)) (le-ltb 256 (gate_count p) k.few_gates)

-- so what the agenda of its gates answers is what the book answers
pub agenda_answers : (s : Store) (q : Plan) (n : ℕ) (a : Result ℕ Refusal) → ∥ History (store_book true s) ∥₁ → q ≡ store_plan s
    → a ≡ ok_unless (agenda_refusal q.gates n) (length (gate_agenda q.gates)) → a ≡ answer (store_book true s) (agenda n)
agenda_answers s q n a lived same e =
    e
    ∙ ap (λ p. ok_unless (agenda_refusal p.gates n) (length (gate_agenda p.gates))) same
    ∙ ap (λ o. ok_unless o (length (agenda_of (store_plan s)))) (agenda_kept (store_plan s) true n (kept_merely lived))

-- and what the listing of its parts answers
pub listing_answers : (s : Store) (q : Plan) (R : Route) (n : ℕ) (a : Result ℕ Refusal) → ∥ History (store_book true s) ∥₁ → q ≡ store_plan s
    → a ≡ ok_unless (listing_refusal q R n) (length (listing q R)) → a ≡ answer (store_book true s) (list R n)
listing_answers s q R n a lived same e =
    e
    ∙ ap (λ p. ok_unless (listing_refusal p R n) (length (listing p R))) same
    ∙ ap (λ o. ok_unless o (length (listing (store_plan s) R))) (listed_kept (store_plan s) R true n (kept_merely lived))

-- a listing that was written stands
pub listed_stands : (b : Book) (R : Route) (places : ℕ) (r : Result ℕ Refusal) (was new : List Operation) → Kept b.plan → RouteLawful R → r ≡ answer b (list R places)
    → new ≡ (if is_ok r then listing b.plan R ++ drop (length (listing b.plan R)) was else was)
    → (M : Model) (most : ℕ) (N : Model) (most' : ℕ) {S : Type 0} (state : S → N.State) (mark : ℕ) (numbers : S → ℕ → ℕ)
    → IfOk r (λ n. Stands M most N most' state mark numbers b R (take n new))
listed_stands b R places (Err e) was new k lawful a w M most N most' state mark numbers = tt
listed_stands b R places (Ok n) was new k lawful a w M most N most' state mark numbers =
    let ls = listing b.plan R in
    let o = or_else (first_broken b.plan R) (refuse_if (ltb places (length ls)) Refusal.TooFewPlaces) in
    let d = neither (first_broken b.plan R) (refuse_if (ltb places (length ls)) Refusal.TooFewPlaces) (accepted o (length ls) n a) in
    let t : take n new ≡ ls = ap (λ i. take i new) (ok_value o (length ls) n a) ∙ ap (take (length ls)) w ∙ take-append_seam ls (drop (length ls) was) in
    subst (Stands M most N most' state mark numbers b R) (sym t) (stands_for b R k lawful d.0 M most N most' state mark numbers)

-- so does that of a job
pub list_stands : (s : Store) (R : Route) (r : Result ℕ Refusal) (was new : List Operation) → ∥ History (store_book true s) ∥₁ → RouteLawful R → r ≡ answer (store_book true s) (list R (length was))
    → new ≡ (if is_ok r then listing (store_plan s) R ++ drop (length (listing (store_plan s) R)) was else was)
    → (M : Model) (most : ℕ) (N : Model) (most' : ℕ) {S : Type 0} (state : S → N.State) (mark : ℕ) (numbers : S → ℕ → ℕ)
    → IfOk r (λ n. Stands M most N most' state mark numbers (store_book true s) R (take n new))
list_stands s R r was new lived = listed_stands (store_book true s) R (length was) r was new (kept_merely lived)
