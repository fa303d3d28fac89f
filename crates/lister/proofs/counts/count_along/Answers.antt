use Rattle.std.proofs.Common.{◌≤◌, length, subst, arith}
use Rattle.route.specs.Paths.{path_cells}
use Rattle.lister.proofs.FirstBlocks.{routed_few}
use Rattle.lister.proofs.counts.count_along.Goals as goal

pub returns-clause-few : goal.returns-clause-few
returns-clause-few c =
    let few = routed_few (λ a b. 0) (path_cells c.args.path.now) (subst (λ cs. length cs ≤ 64) c.cells.ensures.value c.cells.ensures.few) in
    let n = c.operation_count.ensures (λ a b. 0) in
    omega arith
