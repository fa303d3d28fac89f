-- What rehearsing leaves, beside the state and the readings. Assumes nothing.
use Rattle.std.specs.Prelude.{◌≡◌, ℕ, ◌+◌, cond, List, [], ◌∷◌, ◌++◌, drop, length, Some, None, Ok, Option, Result, slice_set}
use Rattle.circuit.specs.declared.operation.Operation.{Operation}
use Rattle.circuit.specs.declared.operation.Reading.{Reading}
use Rattle.circuit.specs.Actions.{first_wire, is_read}
use Rattle.circuit.specs.Operations.{OrderOf, h_count, read_count, reading}
use Rattle.refusal.specs.declared.Refusal.{Refusal}
use Rattle.route.specs.Routes.{Route, RouteLawful}
use Rattle.plan.specs.Plans.{Plan}
use Rattle.plan.specs.Blocks.{direct}
use Rattle.register.specs.Models.{Model, after}
use Rattle.register.specs.Numbers.{renumbered}
use Rattle.book.specs.Books.{Book}
use Rattle.book.specs.Histories.{History, HandedOut}

-- the numbers that are told after the operations
abbrev pub numbers_after : ℕ → List Operation → (ℕ → ℕ) → ℕ → ℕ
numbers_after mark [] row = row
numbers_after mark (o ∷ os) row = numbers_after mark os (renumbered mark o.action row)

-- the readings in the first places, and all others as they were
abbrev pub told_first : List Reading → List Reading → List Reading
told_first was told = told ++ drop (length told) was

-- what a read of the operation tells, from a row of numbers; none where it is no read
abbrev pub reading_told : (ℕ → ℕ) → Operation → Option Reading
reading_told row o = cond (is_read o.action) (Some (reading o.gate (row (first_wire o.action)))) None

-- the places with a reading, where there is one, written at k
abbrev pub noted : Option Reading → List Reading → ℕ → List Reading
noted None ps k = ps
noted (Some r) ps k = slice_set ps k r

-- P holds of the book of each listing that was handed out in a history, under a lawful rule, and of which os is an allowed order
abbrev pub ForEachListing : List Operation → (Book → Type 0) → Type 0
ForEachListing os P = (e : Book) (h : History e) (b : Book) (R : Route) (ls : List Operation) → HandedOut e h b R ls → RouteLawful R → OrderOf ls os → P b

-- a run from the state s, with `done` H before, that answered r and ended in t, with `then` H, ended as the direct run of the plan ends
pub record RanDirectly (M : Model) (p : Plan) (s : M.State) (done : ℕ) (r : Result ℕ Refusal) (t : M.State) (then : ℕ) : Type 0 where
  pub reads : r ≡ Ok (read_count (direct p))
  pub state : t ≡ after M (direct p) s
  pub count : then ≡ done + h_count (direct p)
