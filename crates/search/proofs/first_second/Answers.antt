use Rattle.std.proofs.Common.{◌+◌, cond, sym, ap, ◌∙◌, inl, inr, arith}
use Rattle.std.proofs.lemmas.Bool.{cases_order}
use Rattle.search.specs.Searches.{tested}
use Rattle.search.proofs.Searches.{first_found, first-none, tested-before, tested-from}
use Rattle.search.proofs.first_second.Goals as goal

pub loop-j-init : goal.loop-j-init
loop-j-init g c k l =
    tested-before g.P.PairTest.ordered (g.P.PairTest.failing c.args.test.now) c.args.first c.start_of-start.result k
    (c.start_of-start.ensures ∙ ap (λ o. cond o (c.args.first + 1) 0) c.is_ordered.ensures) l

pub loop-j-preserved : goal.loop-j-preserved
loop-j-preserved g c k l =
    let test = g.P.PairTest.failing c.args.test.now in
    let at =
    tested-from g.P.PairTest.ordered test c.args.first c.start_of-start.result c.loop-j.j
    (c.start_of-start.ensures ∙ ap (λ o. cond o (c.args.first + 1) 0) c.is_ordered.ensures) c.loop-j.auto.j in
    elim (cases_order k c.loop-j.j) [
      | inl e ↦ ap (tested g.P.PairTest.ordered test c.args.first) e ∙ at ∙ sym c.fails.ensures ∙ c.if-fails.false
      | inr o ↦ elim o [ inl s ↦ c.loop-j.invariant k s | inr s ↦ absurd (omega arith) ]
    ]

pub returns-then-fails : goal.returns-then-fails
returns-then-fails g c =
    let test = g.P.PairTest.failing c.args.test.now in
    let n = ap (λ r. r.1) c.bounds-end.ensures in
    let at =
    tested-from g.P.PairTest.ordered test c.args.first c.start_of-start.result c.loop-j.j
    (c.start_of-start.ensures ∙ ap (λ o. cond o (c.args.first + 1) 0) c.is_ordered.ensures) c.loop-j.auto.j in
    sym (first_found (tested g.P.PairTest.ordered test c.args.first) 0 (g.P.PairTest.seconds c.args.test.now) c.loop-j.j (omega arith) (omega arith) c.loop-j.invariant (at ∙ sym c.fails.ensures ∙ c.if-fails.true))

pub returns : goal.returns
returns g c =
    let test = tested g.P.PairTest.ordered (g.P.PairTest.failing c.args.test.now) c.args.first in
    let n = ap (λ r. r.1) c.bounds-end.ensures in
    sym (first-none test 0 (g.P.PairTest.seconds c.args.test.now) (λ a l. c.loop-j.invariant a (omega arith)))
