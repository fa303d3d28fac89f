use Rattle.std.proofs.Common.{◌≡◌, Some, None, sym, ap, subst, arith}
use Rattle.search.specs.Searches.{tested, scan_pairs, Scanned}
use Rattle.search.proofs.Searches.{scan-found, scan-none, scanned}
use Rattle.search.proofs.first_failure.Goals as goal

pub returns-in-Some : goal.returns-in-Some
returns-in-Some g c =
    let test = tested g.P.PairTest.ordered (g.P.PairTest.failing c.args.test.now) in
    let m = g.P.PairTest.firsts c.args.test.now in
    let n = g.P.PairTest.seconds c.args.test.now in
    let b = ap (λ r. r.0) c.bounds-firsts.ensures in
    let e : scan_pairs test m n ≡ Some (c.loop-i.i, c.in-Some.j) = scan-found test n 0 m c.loop-i.i c.in-Some.j (omega arith) (omega arith) c.loop-i.invariant (sym c.in-Some.ensures) in
    record { value = sym e; least = subst (Scanned test m n) e (scanned test m n) }

pub returns : goal.returns
returns g c =
    let test = tested g.P.PairTest.ordered (g.P.PairTest.failing c.args.test.now) in
    let m = g.P.PairTest.firsts c.args.test.now in
    let n = g.P.PairTest.seconds c.args.test.now in
    let b = ap (λ r. r.0) c.bounds-firsts.ensures in
    let e : scan_pairs test m n ≡ None = scan-none test n 0 m (λ a l. c.loop-i.invariant a (omega arith)) in
    record { value = sym e; least = subst (Scanned test m n) e (scanned test m n) }
