-- An operation is known by its key. Assumes nothing.
use Rattle.std.specs.Prelude.{◌≡◌, ℕ, List, slice_index, slice_index_or, refl}
use Rattle.std.proofs.Common.{sym, ap, ◌∙◌}
use Rattle.std.specs.Cmp.{IsTotalOrder}
use Rattle.orders.specs.Ranks.{TotalOrder, compared}
use Rattle.orders.proofs.Keys.{key_total}
use Rattle.orders.proofs.Compared.{compared_total}
use Rattle.circuit.specs.declared.action.Plain.{Plain}
use Rattle.circuit.specs.declared.action.Single.{Single}
use Rattle.circuit.specs.declared.action.Action.{Action}
use Rattle.circuit.specs.declared.operation.Operation.{Operation}
use Rattle.circuit.specs.Actions.{first_wire, target_or_zero, of_each_kind, kind_place}
use Rattle.circuit.specs.Operations.{operation_key, operation_before}

-- an action by the place of its kind and its wires
kind_at : ℕ → ℕ → ℕ → Action
kind_at n a b = slice_index_or (of_each_kind a b) n (Action.One Single.H a)

kind_known : (x : Action) → kind_at (kind_place x) (first_wire x) (target_or_zero x) ≡ x
unfolding kind_at
kind_known (Action.One Single.H a) = refl
kind_known (Action.One (Single.Plain Plain.X) a) = refl
kind_known (Action.One (Single.Plain Plain.Y) a) = refl
kind_known (Action.One (Single.Plain Plain.Z) a) = refl
kind_known (Action.One (Single.Plain Plain.S) a) = refl
kind_known (Action.One (Single.Plain Plain.T) a) = refl
kind_known (Action.One Single.Read a) = refl
kind_known (Action.Cnot a b) = refl

abbrev operation_at : List ℕ → Operation
operation_at ks = record { start = slice_index ks 0; length = slice_index ks 2; action = kind_at (slice_index ks 3) (slice_index ks 1) (slice_index ks 4); gate = slice_index ks 5 }

operation_known : (o : Operation) → operation_at (operation_key o) ≡ o
operation_known o = λ i. record { start = o.start; length = o.length; action = kind_known o.action i; gate = o.gate }

-- operations are in a total order
pub operations_total : TotalOrder operation_before
operations_total = key_total operation_key (λ x y e. sym (operation_known x) ∙ ap operation_at e ∙ operation_known y)

-- and so is what compares them
pub comparison_total : IsTotalOrder (compared operation_before)
comparison_total = compared_total operations_total
