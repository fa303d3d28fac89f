use Rattle.std.proofs.Common.{rules, ◌^◌, arith}
use borrow.Author.Tests.{tests}
use Rattle.std.proofs.lemmas.Iterator.{YieldsList-from_map}
use Rattle.std.proofs.lemmas.Iterator.Consumers.{YieldsList-at, sum_by_from_yields_List, fits_by_from_yields_list}
use Rattle.cnot.specs.declared.link.Link.{Link}
use Rattle.cnot.specs.Links.{times_of, links}
use Rattle.cnot.proofs.Links.{total_few}
use Rattle.cnot.proofs.Windows.{YieldsList-from_pairs}
use Rattle.cnot.proofs.time.total_time.Goals as goal

pub sum-requires-clause-fits : goal.sum-requires-clause-fits
sum-requires-clause-fits c =
    let few = total_few c.args.table.now c.args.cells.now in
    let pairs = YieldsList-from_pairs (times_of c.args.table.now) c.args.cells.now c.array_windows.ensures.rest c.array_windows.ensures.size in
    fits_by_from_yields_list (λ (l : Link). l.time) (links (times_of c.args.table.now) c.args.cells.now) c.map.result (2 ^ 32)
    (YieldsList-from_map _ (λ (l : Link). l.time) (YieldsList-at c.map.ensures.source pairs) c.map.ensures.closure (λ x r q k. search (rules, tests))) (omega arith)

pub returns : goal.returns
returns c =
    let few = total_few c.args.table.now c.args.cells.now in
    let pairs = YieldsList-from_pairs (times_of c.args.table.now) c.args.cells.now c.array_windows.ensures.rest c.array_windows.ensures.size in
    let value = sum_by_from_yields_List (λ (l : Link). l.time) (links (times_of c.args.table.now) c.args.cells.now) c.map.result c.sum.result c.sum.ensures.ran
    (YieldsList-from_map _ (λ (l : Link). l.time) (YieldsList-at c.map.ensures.source pairs) c.map.ensures.closure (λ x r q k. search (rules, tests))) in
    record { value = value; few = omega arith }
