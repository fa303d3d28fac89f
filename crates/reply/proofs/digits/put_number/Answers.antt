use Rattle.std.proofs.Common.{◌≡◌, ◌+◌, ◌-◌, arith, append_assoc}
use Rattle.std.proofs.lemmas.Fmt.{decimal_step, decimal_digit}
use Rattle.std.proofs.lemmas.List.{drop-set, take-set-le}
use Rattle.reply.proofs.Decimals.{length_wide, length_one, length_step, before_both}
use Rattle.reply.proofs.digits.put_number.Goals as goal

pub overflow_sub-at : goal.overflow_sub-at
overflow_sub-at c = omega (arith, length_wide c.args.number c.ranges.number.fits, length_step c.loop-left.left c.loop-left-test.true c.loop-left.auto.left-fits.fits)

pub loop-left-preserved : goal.loop-left-preserved
loop-left-preserved c =
    let l = c.loop-left in
    let long = length_wide c.args.number c.ranges.number.fits in
    let step = length_step l.left c.loop-left-test.true l.auto.left-fits.fits in
    let e : l.at - 1 + 1 ≡ l.at = omega arith in (
      omega arith,
      before_both (l.at - 1) l.at _ l.places _ (omega arith) (take-set-le (l.at - 1) l.places (l.at - 1) _ (omega arith)) l.invariant.1,
      omega arith,
      rw (drop-set l.places (l.at - 1) _ (omega arith), e) (rw (decimal_step l.left c.loop-left-test.true l.auto.left-fits.fits, append_assoc) at l.invariant.3),
    )

pub put_byte-requires : goal.put_byte-requires
put_byte-requires c = omega (arith, length_wide c.args.number c.ranges.number.fits, length_one c.loop-left.left (omega arith))

pub returns-clause-room : goal.returns-clause-room
returns-clause-room c = omega (arith, length_wide c.args.number c.ranges.number.fits, length_one c.loop-left.left (omega arith))

pub returns-clause-bytes : goal.returns-clause-bytes
returns-clause-bytes c = rw c.put_byte.ensures.bytes (rw (decimal_digit c.loop-left.left (omega arith)) at c.loop-left.invariant.3)

pub returns-clause-before : goal.returns-clause-before
returns-clause-before c = before_both c.put_byte.result c.loop-left.at _ c.loop-left.places _ (omega (arith, c.put_byte.ensures.at)) c.put_byte.ensures.before c.loop-left.invariant.1
