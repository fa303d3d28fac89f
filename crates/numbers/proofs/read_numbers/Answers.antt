use Rattle.std.proofs.Common.{refl, arith, true-eqb, false-eqb}
use lib.ListN.{length-replicate}
use Rattle.numbers.proofs.Rows.{stuck, one_more, over, whole}
use Rattle.numbers.proofs.read_numbers.Goals as goal

pub loop-i-init : goal.loop-i-init
loop-i-init g c = record { long = length-replicate g.row.N 0; small = tt; split = refl; stops = λ z. absurd (omega arith) }

pub loop-i-preserved : goal.loop-i-preserved
loop-i-preserved g c =
    let got = c.in_ok-n.ensures in
    one_more _ _ _ _ _ c.loop-i.invariant c.loop-i.auto.i-end c.loop-i-test.true _ _ got.0 got.1 got.2

pub returns-in_err-n : goal.returns-in_err-n
returns-in_err-n g c = rw c.from_residual.ensures (stuck _ _ _ _ _ c.loop-i.invariant c.loop-i.auto.i-end c.loop-i-test.true c.in_err-n.ensures)

pub returns-then-is_empty : goal.returns-then-is_empty
returns-then-is_empty g c = whole _ _ _ _ _ c.loop-i.invariant c.loop-i.auto.i-end (omega arith) (true-eqb _ 0 c.if-is_empty.ensures)

pub returns-else-is_empty : goal.returns-else-is_empty
returns-else-is_empty g c =
    let none = false-eqb _ 0 c.if-is_empty.ensures in
    over _ _ _ _ _ c.loop-i.invariant c.loop-i.auto.i-end (omega arith) (omega (arith, none))
