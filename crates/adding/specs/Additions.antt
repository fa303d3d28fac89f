-- The gate that adding makes, and what refuses it, by the number of labels and the gates so far. Assumes nothing.
use Rattle.std.specs.Prelude.{ℕ, List, length, Some, None, Err, Option, Result, nat_le}
use Rattle.circuit.specs.declared.action.Action.{Action}
use Rattle.circuit.specs.Actions.{wires, is_twice}
use Rattle.refusal.specs.declared.Refusal.{Refusal}
use Rattle.refusal.specs.Refusals.{refuse_if, or_else, ok_unless}
use Rattle.plan.specs.declared.gate.Gate.{Gate}
use Rattle.book.specs.Books.{untimed}
use Rattle.book.specs.Refusals.{refuse_first, was_read}

-- the action of the same kind on a, or on a and b
abbrev pub with_wires : ℕ → ℕ → Action → Action
with_wires a b (Action.One k l) = Action.One k a
with_wires a b (Action.Cnot l m) = Action.Cnot a b

-- of n labels, the first that the action names and that is none
abbrev pub labels_refusal : ℕ → Action → Option Refusal
labels_refusal n x = refuse_first Refusal.NoSuchLabel (λ l. nat_le n l) (wires x)

-- an action on n labels, or that there is no such kind or label
abbrev pub labelled : ℕ → Option Action → Result Action Refusal
labelled n None = Err Refusal.UnknownKind
labelled n (Some x) = ok_unless (labels_refusal n x) x

-- one label twice, a label read already, a full program
abbrev pub program_refusal : List Gate → Action → Option Refusal
program_refusal gs x = or_else (refuse_if (is_twice x) Refusal.SameLabel) (or_else (refuse_first Refusal.AlreadyRead (was_read gs) (wires x)) (refuse_if (nat_le 256 (length gs)) Refusal.ProgramFull))

-- the gate of the action with no timing, or what refuses it
abbrev pub new_gate : ℕ → List Gate → Option Action → Result Gate Refusal
new_gate n gs None = Err Refusal.UnknownKind
new_gate n gs (Some x) = ok_unless (or_else (labels_refusal n x) (program_refusal gs x)) (untimed x)
