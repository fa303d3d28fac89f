-- A gate that the program refuses, though its labels are right. Assumes nothing.
use Rattle.std.proofs.Common.{◌≡◌, ℕ, List, Some, None, Ok, Option, rules}
use Rattle.circuit.specs.declared.action.Action.{Action}
use Rattle.refusal.specs.declared.Refusal.{Refusal}
use Rattle.refusal.specs.Refusals.{or_else, ok_unless}
use Rattle.plan.specs.declared.gate.Gate.{Gate}
use Rattle.book.specs.Books.{untimed}
use Rattle.adding.specs.Additions.{labelled, program_refusal, new_gate}

from_labels : (a b : Option Refusal) (x y : Action) → Ok x ≡ ok_unless a y → ok_unless (or_else a b) (untimed y) ≡ ok_unless b (untimed x)
from_labels a b x y e = search rules

-- once the labels are right, what the program says
pub new_gate_labelled : (n : ℕ) (gs : List Gate) (o : Option Action) (x : Action) → Ok x ≡ labelled n o → new_gate n gs o ≡ ok_unless (program_refusal gs x) (untimed x)
new_gate_labelled n gs None x e = search rules
new_gate_labelled n gs (Some y) x e = search rules
