-- A register that is given a listing is found in the state that the program itself would have given it. Assumes nothing.
use Rattle.std.specs.Prelude.{◌≡◌, ℕ, ◌+◌, List, Some, None, Option}
use Rattle.orders.specs.Perms.{Perm}
use Rattle.circuit.specs.declared.operation.Operation.{Operation}
use Rattle.circuit.specs.Operations.{OrderOf, h_count, read_count}
use Rattle.route.specs.Routes.{Route, RouteLawful}
use Rattle.plan.specs.Blocks.{direct}
use Rattle.plan.specs.Listings.{WellListed}
use Rattle.register.specs.Models.{Model, after}
use Rattle.register.specs.Numbers.{tells}
use Rattle.register.specs.Runs.{capacity, running_refusal}
use Rattle.book.specs.Books.{Book}
use Rattle.book.specs.Calls.{run}
use Rattle.book.specs.Refusals.{refusal}
use Rattle.book.specs.Histories.{History, HandedOut}

-- the state and the count of H in which a run ends
abbrev pub ran : (M : Model) → List Operation → M.State → ℕ → M.State × ℕ
ran M os s done = (after M os s, done + h_count os)

-- M is a gate register's model, and `most` its greatest count of H; N, most', state, mark and numbers are a telling register's.
module _ (M : Model) (most : ℕ) (N : Model) (most' : ℕ) {S : Type 0} (state : S → N.State) (mark : ℕ) (numbers : S → ℕ → ℕ) where
  -- what a listing of a book's plan is good for on these registers
  pub record Stands (b : Book) (R : Route) (ls : List Operation) : Type 0 where
    -- From every state, and in every order in which of two operations that name a common cell the one with the earlier start comes first, rehearsing ends in the state and the count of H in which the direct run ends, where neither is refused.
    pub same_end : (s : M.State) (done : ℕ) (places places' : Option ℕ) (os : List Operation) → OrderOf ls os
        → running_refusal (capacity M most s done places) os ≡ None → refusal b (run (capacity M most s done places')) ≡ None
        → ran M os s done ≡ ran M (direct b.plan) s done
    -- Both answer the same count of reads.
    pub same_reads : (os : List Operation) → OrderOf ls os → read_count os ≡ read_count (direct b.plan)
    -- On a telling register each read gate tells the same number in both.
    pub same_told : (x : S) (done places places' : ℕ) (os : List Operation) → OrderOf ls os
        → running_refusal (capacity N most' (state x) done (Some places)) os ≡ None → refusal b (run (capacity N most' (state x) done (Some places'))) ≡ None
        → Perm (tells mark os (numbers x)) (tells mark (direct b.plan) (numbers x))
    -- The listing is the one defined; its CNOTs join neighbours; every gate has operations, which end within the gate's windows.
    pub well_listed : WellListed b.plan R ls

  -- For every history of a job and each listing that was handed out in it under a lawful rule.
  abbrev pub ListingsStand : Type 0
  ListingsStand = (e : Book) (h : History e) (b : Book) (R : Route) (ls : List Operation) → HandedOut e h b R ls → RouteLawful R → Stands b R ls
