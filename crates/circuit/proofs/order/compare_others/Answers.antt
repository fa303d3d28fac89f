use Rattle.std.proofs.Common.{[], ◌∷◌, unwrap_or, ap, ◌∙◌}
use Rattle.std.proofs.lemmas.Cmp.{ranked}
use Rattle.orders.specs.Ranks.{compared, precedes}
use Rattle.orders.proofs.Keys.{last-compared, more-compared}
use Rattle.circuit.proofs.order.compare_others.Goals as goal

pub returns : goal.returns
returns c =
    let a = c.args.a in
    let b = c.args.b in
    let gates = last-compared a.gate b.gate c.cmp-gates.result (ranked _ _ _ c.cmp-gates.ensures) in
    let targets = more-compared c.unwrap_or.result c.unwrap_or-2.result (a.gate ∷ []) (b.gate ∷ []) c.cmp-targets.result _ _ (ranked _ _ _ c.cmp-targets.ensures) gates c.then.ensures in
    let kinds = more-compared c.kind_place.result c.kind_place-2.result (c.unwrap_or.result ∷ a.gate ∷ []) (c.unwrap_or-2.result ∷ b.gate ∷ []) c.cmp-kinds.result _ _ (ranked _ _ _ c.cmp-kinds.ensures) targets c.then-2.ensures in
    let target = c.unwrap_or.ensures ∙ ap (λ o. unwrap_or o 0) c.second_wire.ensures in
    let target_2 = c.unwrap_or-2.ensures ∙ ap (λ o. unwrap_or o 0) c.second_wire-2.ensures in
    more-compared a.length b.length (c.kind_place.result ∷ c.unwrap_or.result ∷ a.gate ∷ []) (c.kind_place-2.result ∷ c.unwrap_or-2.result ∷ b.gate ∷ []) c.cmp-lengths.result _ _ (ranked _ _ _ c.cmp-lengths.ensures) kinds c.then-3.ensures
    ∙ (λ i. compared precedes (a.length ∷ c.kind_place.ensures i ∷ target i ∷ a.gate ∷ []) (b.length ∷ c.kind_place-2.ensures i ∷ target_2 i ∷ b.gate ∷ []))
