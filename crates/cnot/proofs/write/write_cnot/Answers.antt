use Rattle.std.proofs.Common.{ltb, length, sym, ap, ◌∙◌, arith}
use Rattle.std.proofs.lemmas.Bool.{ltb-false}
use Rattle.refusal.specs.declared.Refusal.{Refusal}
use Rattle.refusal.specs.Refusals.{refuse_if}
use Rattle.refusal.proofs.Accepted.{passed, neither, accepted}
use Rattle.route.specs.Paths.{path_cells}
use Rattle.cnot.specs.Links.{times_of, operations_along}
use Rattle.cnot.specs.Steps.{writing_refusal}
use Rattle.cnot.proofs.Routed.{length_along, along_few}
use Rattle.cnot.proofs.write.write_cnot.Goals as goal

pub along-requires : goal.along-requires
along-requires c =
    let start = c.args.start in
    let places = length c.args.out.now in
    let count = c.operation_count-count.result in
    let time = times_of c.args.table.now in
    let a = accepted (writing_refusal start c.args.gate places count) tt _ (sym c.in_ok-check.was ∙ c.check.ensures) in
    let p = neither (refuse_if (ltb 1000000 start) (Refusal.StartTooLarge c.args.gate)) (refuse_if (ltb places count) Refusal.TooFewPlaces) a in
    let n = c.operation_count-count.ensures time ∙ length_along time (path_cells c.args.path.now) ∙ sym (ap (λ cs. operations_along (length cs)) c.cells.ensures.value) in
    let few = along_few (length c.cells.result.now) c.cells.ensures.few in
    let s = ltb-false 1000000 start (passed (ltb 1000000 start) (Refusal.StartTooLarge c.args.gate) p.0) in
    let m = ltb-false places count (passed (ltb places count) Refusal.TooFewPlaces p.1) in
    (omega arith, omega arith)
