use Rattle.std.proofs.Common.{◌&&◌, ◌||◌, ◌==◌, rules, tests, refl, ◌∙◌}
use Rattle.std.specs.List.{list_any}
use Rattle.std.proofs.lemmas.Iterator.{YieldsList-from_slice}
use Rattle.std.proofs.lemmas.Iterator.Search.{any_from_yields_List}
use Rattle.std.proofs.lemmas.List.Recursion.{same_from_clauses}
use Rattle.orders.specs.Lists.{any}
use Rattle.circuit.specs.Actions.{is_read, first_wire}
use Rattle.plan.specs.declared.gate.Gate.{Gate}
use Rattle.adding.proofs.unread.was_read.Goals as goal

pub returns : goal.returns
returns c =
    let test = λ (g : Gate). is_read g.action && first_wire g.action == c.args.label in
    let gs = c.args.gates.now in
    any_from_yields_List test _ _ _ c.any.ensures.ran (YieldsList-from_slice gs cc) (λ g b q k. search (rules, tests))
    ∙ same_from_clauses (list_any test) (any test) (λ g t. test g || t) refl (λ g gs. refl) (λ g gs. refl) gs
