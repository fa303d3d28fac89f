-- The gate that adding makes, as the book adds it. Assumes nothing.
use Rattle.std.proofs.Common.{◌≡◌, [], ◌∷◌, ◌++◌, Some, None, Ok, Err, Option, Result, rules}
use Rattle.circuit.specs.declared.action.Action.{Action}
use Rattle.refusal.specs.declared.Refusal.{Refusal}
use Rattle.plan.specs.declared.gate.Gate.{Gate}
use Rattle.plan.specs.Plans.{Plan, labels}
use Rattle.book.specs.Books.{with_gates}
use Rattle.book.specs.Refusals.{adding_refusal}
use Rattle.book.specs.Histories.{added_or}
use Rattle.adding.specs.Additions.{new_gate}
use Rattle.store.specs.Stores.{MakesGate}

-- a gate that is refused
add_refused : (p : Plan) (o : Option Action) (r : Refusal) → Err r ≡ new_gate (labels p) p.gates o → adding_refusal p o ≡ Some r
add_refused p None r e = search rules
add_refused p (Some x) r e = search rules

-- a gate that is made
add_accepted : (p : Plan) (o : Option Action) (g : Gate) → Ok g ≡ new_gate (labels p) p.gates o → adding_refusal p o ≡ None
add_accepted p None g e = search rules
add_accepted p (Some x) g e = search rules

-- is what the book adds
add_gates : (p : Plan) (o : Option Action) (g : Gate) → Ok g ≡ new_gate (labels p) p.gates o → added_or p o ≡ with_gates p (p.gates ++ (g ∷ []))
add_gates p None g e = search rules
add_gates p (Some x) g e = search rules

pub makes_gate : (p : Plan) (o : Option Action) (a : Result Gate Refusal) → a ≡ new_gate (labels p) p.gates o → MakesGate p o a
makes_gate p o (Ok g) e = (add_accepted p o g e, add_gates p o g e)
makes_gate p o (Err r) e = add_refused p o r e
