-- Operations and their order. Assumes nothing.
use Rattle.std.specs.Prelude.{ℕ, ◌+◌, ◌≤◌, Bool, cond, List, [], ◌∷◌}
use Rattle.orders.specs.Lists.{Pairs, Common}
use Rattle.orders.specs.Perms.{Perm}
use Rattle.orders.specs.Ranks.{by_key}
use Rattle.circuit.specs.declared.operation.Operation.{Operation}
use Rattle.circuit.specs.declared.operation.Reading.{Reading}
use Rattle.circuit.specs.Actions.{wires, first_wire, target_or_zero, kind_place, is_h, is_read}

-- when an operation is over
abbrev pub operation_end : Operation → ℕ
operation_end o = o.start + o.length

-- the fields in the order in which operations are compared: start, first cell, length, kind, second cell, gate
abbrev pub later_fields : Operation → List ℕ
later_fields o = o.length ∷ kind_place o.action ∷ target_or_zero o.action ∷ o.gate ∷ []

abbrev pub cell_and_later : Operation → List ℕ
cell_and_later o = first_wire o.action ∷ later_fields o

abbrev pub operation_key : Operation → List ℕ
operation_key o = o.start ∷ cell_and_later o

-- the first operation comes before the second
abbrev pub operation_before : Operation → Operation → Bool
operation_before = by_key operation_key

-- the cells that an operation names
abbrev pub cells_of : Operation → List ℕ
cells_of o = wires o.action

-- of two operations that name a common cell the one with the earlier start comes first
abbrev pub Allowed : List Operation → Type 0
Allowed os = Pairs (λ o p. Common (cells_of o) (cells_of p) → o.start ≤ p.start) os

-- the operations of a listing, in an allowed order
pub record OrderOf (ls os : List Operation) : Type 0 where
  pub same_operations : Perm ls os
  pub allowed : Allowed os

-- 1 for true
abbrev pub one_if : Bool → ℕ
one_if b = cond b 1 0

-- how many H there are
abbrev pub h_count : List Operation → ℕ
h_count [] = 0
h_count (o ∷ os) = one_if (is_h o.action) + h_count os

-- how many reads there are
abbrev pub read_count : List Operation → ℕ
read_count [] = 0
read_count (o ∷ os) = one_if (is_read o.action) + read_count os

-- what a read of the gate g told
abbrev pub reading : ℕ → ℕ → Reading
reading g n = record { gate = g; number = n }
