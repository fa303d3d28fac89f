use Rattle.std.proofs.Common.{◌≡◌, Decides, Ordering, ap}
use Rattle.std.specs.Ordering.{is_eq}
use Rattle.std.proofs.lemmas.Bool.Decides.{Decides-at}
use Rattle.std.proofs.lemmas.Cmp.{ranked}
use Rattle.orders.specs.Ranks.{compared}
use Rattle.orders.proofs.Keys.{apart-compared, same-compared}
use Rattle.orders.proofs.Compared.{equal_decides}
use Rattle.circuit.specs.declared.operation.Operation.{Operation}
use Rattle.circuit.specs.Operations.{cell_and_later, operation_before}
use Rattle.circuit.specs.Known.{operations_total}
use Rattle.circuit.proofs.order.compare.Goals as goal

equal : (a b : Operation) (r : Ordering) → r ≡ compared operation_before a b → Decides (is_eq r) (a ≡ b)
equal a b r e = Decides-at _ _ (ap is_eq e) (equal_decides operations_total a b)

pub returns-in-Equal : goal.returns-in-Equal
returns-in-Equal c =
    let a = c.args.a in
    let b = c.args.b in
    let e = same-compared a.start b.start (cell_and_later a) (cell_and_later b) c.cmp.result c.compare_cells.result (ranked _ _ _ c.cmp.ensures) c.in-Equal.is c.compare_cells.ensures in
    record { value = e; equal = equal a b c.compare_cells.result e }

pub returns-in_default : goal.returns-in_default
returns-in_default c =
    let a = c.args.a in
    let b = c.args.b in
    let e = apart-compared a.start b.start (cell_and_later a) (cell_and_later b) c.cmp.result (ranked _ _ _ c.cmp.ensures) c.in_default.not-Equal in
    record { value = e; equal = equal a b c.cmp.result e }
