use Rattle.std.proofs.Common.{rules, tests, ap, ◌∙◌}
use Rattle.std.specs.Option.{option_map}
use Rattle.std.proofs.lemmas.Iterator.{YieldsList-from_slice}
use Rattle.std.proofs.lemmas.Iterator.Search.{position_from_yields_List}
use Rattle.circuit.specs.declared.operation.Operation.{Operation}
use Rattle.refusal.specs.declared.Refusal.{Refusal}
use Rattle.register.specs.Runs.{is_off_wires, at_first}
use Rattle.running.proofs.Firsts.{named_first}
use Rattle.running.proofs.first_off_wires.Goals as goal

pub returns : goal.returns
returns g c =
    let os = c.args.operations.now in
    let test = λ (o : Operation). is_off_wires c.wires-wires.result o.action in
    ap (option_map Refusal.NotOnWires) (position_from_yields_List test _ _ _ c.position.ensures.ran (YieldsList-from_slice os cc) (λ o b q k. search (rules, tests)))
    ∙ named_first Refusal.NotOnWires test os
    ∙ ap (λ n. at_first Refusal.NotOnWires (λ (o : Operation). is_off_wires n o.action) 0 os) c.wires-wires.ensures
