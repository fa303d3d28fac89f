-- What a list of operations is refused for on a register. Assumes nothing.
use Rattle.std.specs.Prelude.{◌≡◌, ℕ, ◌+◌, ◌<◌, ◌≤◌, Bool, false, cond, not, ◌||◌, ◌⊎◌, List, [], ◌∷◌, length, Some, None, Option, ◌==◌, nat_le, nat_lt, slice_index_or}
use Rattle.std.specs.List.{AllByRecursion}
use Rattle.orders.specs.Lists.{any}
use Rattle.circuit.specs.declared.action.Single.{Single}
use Rattle.circuit.specs.declared.action.Action.{Action}
use Rattle.circuit.specs.declared.operation.Operation.{Operation}
use Rattle.refusal.specs.declared.Refusal.{Refusal}
use Rattle.circuit.specs.Actions.{wires, is_twice}
use Rattle.circuit.specs.Operations.{h_count, read_count}
use Rattle.refusal.specs.Refusals.{shown, number, or_else}
use Rattle.register.specs.Models.{Model, is_taken, OnWires, Fit}

-- what a run meets in a register: wires, kinds taken, H done, the greatest count of H, and the places for readings, where it tells
pub record Capacity : Type 0 where
  pub wires : ℕ
  pub takes : Single → Bool
  pub done : ℕ
  pub most : ℕ
  pub places : Option ℕ

-- the capacity of a register of model M in the state s
abbrev pub capacity : (M : Model) → ℕ → M.State → ℕ → Option ℕ → Capacity
capacity M most s done places = record { wires = M.size s; takes = M.takes; done = done; most = most; places = places }

-- a wire beyond n, or a CNOT with one wire twice
abbrev pub is_off_wires : ℕ → Action → Bool
is_off_wires n x = any (λ c. nat_le n c) (wires x) || is_twice x

-- the refusal at the first position, counted from i, at which the test holds
abbrev pub at_first : {X : Type 0} → (ℕ → Refusal) → (X → Bool) → ℕ → List X → Option Refusal
at_first names test i [] = None
at_first names test i (x ∷ xs) = cond (test x) (Some (names i)) (at_first names test (i + 1) xs)

-- fewer places than n
abbrev pub too_few : ℕ → Option ℕ → Option Refusal
too_few n None = None
too_few n (Some m) = cond (nat_lt m n) (Some Refusal.TooFewPlaces) None

-- the first test that fails, at its lowest position
abbrev pub running_refusal : Capacity → List Operation → Option Refusal
running_refusal r os =
    or_else (at_first Refusal.NotOnWires (λ o. is_off_wires r.wires o.action) 0 os)
    (or_else (at_first Refusal.KindNotTaken (λ o. not (is_taken r.takes o.action)) 0 os)
    (or_else (cond (nat_lt r.most (r.done + h_count os)) (Some Refusal.TooManyH) None) (too_few (read_count os) r.places)))

-- the action alone
abbrev pub alone : Action → List Operation
alone x = record { start = 0; length = 0; action = x; gate = 0 } ∷ []

-- what a single action is refused for
abbrev pub applying_refusal : Capacity → Action → Option Refusal
applying_refusal r x = running_refusal r (alone x)

-- the register takes the operations: each fits it, the H stay within the greatest count, and there are places for the readings
pub record Taken (r : Capacity) (os : List Operation) : Type 0 where
  pub fits : AllByRecursion (λ o. Fit r.wires r.takes o.action) os
  pub few : r.done + h_count os ≤ r.most
  pub room : (n : ℕ) → r.places ≡ Some n → read_count os ≤ n

-- where there is no operation
abbrev pub no_operation : Operation
no_operation = record { start = 0; length = 0; action = Action.One Single.H 0; gate = 0 }

-- the operation at position i
abbrev pub operation_at : List Operation → ℕ → Operation
operation_at os i = slice_index_or os i no_operation

-- the test that the refusal names fails
abbrev pub Failed : Capacity → List Operation → Refusal → Type 0
Failed r os (Refusal.NotOnWires i) = (i < length os) × (OnWires r.wires (operation_at os i).action → ⊥)
Failed r os (Refusal.KindNotTaken i) = (i < length os) × (is_taken r.takes (operation_at os i).action ≡ false)
Failed r os Refusal.TooManyH = r.most < r.done + h_count os
Failed r os Refusal.TooFewPlaces = (n : ℕ) × (r.places ≡ Some n) × (n < read_count os)
Failed r os Refusal.MachineSize = ⊥
Failed r os Refusal.LabelCount = ⊥
Failed r os Refusal.UnknownKind = ⊥
Failed r os (Refusal.NoSuchLabel l) = ⊥
Failed r os Refusal.SameLabel = ⊥
Failed r os (Refusal.AlreadyRead l) = ⊥
Failed r os Refusal.ProgramFull = ⊥
Failed r os (Refusal.NoSuchCell c) = ⊥
Failed r os (Refusal.ValueOutOfRange c) = ⊥
Failed r os (Refusal.NoSuchGate g) = ⊥
Failed r os (Refusal.StartTooLarge g) = ⊥
Failed r os (Refusal.ChoiceTooLarge g) = ⊥
Failed r os (Refusal.NoHome l) = ⊥
Failed r os (Refusal.SharedHome l m) = ⊥
Failed r os (Refusal.NoTiming g) = ⊥
Failed r os (Refusal.ChoiceNotOffered g) = ⊥
Failed r os (Refusal.TooEarly i j) = ⊥
Failed r os (Refusal.Overlap i j) = ⊥
Failed r os (Refusal.PastWindow g c) = ⊥
Failed r os Refusal.MalformedLine = ⊥
Failed r os Refusal.WrongState = ⊥
Failed r os Refusal.NoMemory = ⊥

-- the place of a test in the order: by number, the places last
abbrev pub test_order : Refusal → ℕ
test_order r = cond (number r == 31) 44 (number r)

-- q is tested before r
abbrev pub Sooner : Refusal → Refusal → Type 0
Sooner q r = (test_order q < test_order r) ⊎ ((test_order q ≡ test_order r) × ((shown q).first < (shown r).first))

-- the named test fails, and none that comes before it does
pub record FirstFailed (r : Capacity) (os : List Operation) (f : Refusal) : Type 0 where
  pub failed : Failed r os f
  pub none_sooner : (q : Refusal) → Sooner q f → Failed r os q → ⊥

-- a list of operations is refused exactly when the register does not take it, and then for the first test that fails
pub record RunningFair : Type 0 where
  pub accepted : (r : Capacity) (os : List Operation) → running_refusal r os ≡ None → Taken r os
  pub not_refused : (r : Capacity) (os : List Operation) → Taken r os → running_refusal r os ≡ None
  pub names_first : (r : Capacity) (os : List Operation) (f : Refusal) → running_refusal r os ≡ Some f → FirstFailed r os f
