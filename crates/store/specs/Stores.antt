-- The plan and the book that a store holds. Assumes nothing.
use Rattle.std.specs.Prelude.{◌≡◌, ℕ, Bool, [], ◌∷◌, ◌++◌, Some, None, Ok, Err, Option, Result, MatchResult, vec_items}
use Rattle.refusal.specs.declared.Refusal.{Refusal}
use Rattle.circuit.specs.declared.action.Action.{Action}
use Rattle.plan.specs.declared.gate.Timing.{Timing}
use Rattle.plan.specs.declared.gate.Gate.{Gate}
use Rattle.plan.specs.Plans.{Plan, plan_of}
use Rattle.book.specs.Books.{Book, with_gates}
use Rattle.book.specs.Refusals.{adding_refusal}
use Rattle.book.specs.Histories.{added_or}
use Rattle.store.specs.declared.store.Store.{Store}

-- the plan of a store
abbrev pub store_plan : Store → Plan
store_plan s = plan_of s.table (vec_items s.homes) (vec_items s.gates)

-- the book of a job that holds the store, closed or not
abbrev pub store_book : Bool → Store → Book
store_book closed s = record { plan = store_plan s; closed = closed }

-- the start s under the choice c
abbrev pub timing_at : ℕ → ℕ → Timing
timing_at s c = record { start = s; choice = c }

-- a refused opening answers its refusal; any other the plan, unless memory wants
abbrev pub OpensStore : Option Refusal → Plan → Result Store Refusal → Type 0
OpensStore (Some r) p answer = answer ≡ Err r
OpensStore None p answer = MatchResult answer (λ s. store_plan s ≡ p) (λ e. e ≡ Refusal.NoMemory)

-- the gate is what the book adds, or the refusal the book's
abbrev pub MakesGate : Plan → Option Action → Result Gate Refusal → Type 0
MakesGate p o (Ok g) = (adding_refusal p o ≡ None) × (added_or p o ≡ with_gates p (p.gates ++ (g ∷ [])))
MakesGate p o (Err r) = adding_refusal p o ≡ Some r
