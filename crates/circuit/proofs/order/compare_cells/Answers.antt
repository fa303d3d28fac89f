use Rattle.std.proofs.Common.{◌∷◌, ◌∙◌}
use Rattle.std.proofs.lemmas.Cmp.{ranked}
use Rattle.orders.specs.Ranks.{compared, precedes}
use Rattle.orders.proofs.Keys.{apart-compared}
use Rattle.circuit.specs.Operations.{later_fields}
use Rattle.circuit.proofs.order.compare_cells.Goals as goal

pub returns-in_default : goal.returns-in_default
returns-in_default c =
    apart-compared c.first_wire.result c.first_wire-2.result (later_fields c.args.a) (later_fields c.args.b) c.cmp.result (ranked _ _ _ c.cmp.ensures) c.in_default.not-Equal
    ∙ (λ i. compared precedes (c.first_wire.ensures i ∷ later_fields c.args.a) (c.first_wire-2.ensures i ∷ later_fields c.args.b))
