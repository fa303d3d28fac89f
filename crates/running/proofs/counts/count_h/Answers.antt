use Rattle.std.proofs.Common.{rules, tests, ◌∙◌}
use Rattle.std.proofs.lemmas.Iterator.{YieldsList-from_slice}
use Rattle.std.proofs.lemmas.Iterator.Consumers.{YieldsList-at, YieldsList-from_filter, count_from_yields_List}
use Rattle.circuit.specs.declared.operation.Operation.{Operation}
use Rattle.circuit.specs.Actions.{is_h}
use Rattle.running.proofs.Counting.{length-h}
use Rattle.running.proofs.counts.count_h.Goals as goal

pub returns : goal.returns
returns c =
    let test = λ (o : Operation). is_h o.action in
    let os = c.args.operations.now in
    count_from_yields_List c.filter.result c.count.result c.count.ensures.ran (YieldsList-from_filter _ test (YieldsList-at c.filter.ensures.source (YieldsList-from_slice os cc)) c.filter.ensures.closure (λ o b q k. search (rules, tests))) ∙ length-h os
