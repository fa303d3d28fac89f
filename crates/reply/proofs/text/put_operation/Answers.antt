use Rattle.std.proofs.Common.{arith}
use Rattle.reply.proofs.Decimals.{before_both}
use Rattle.reply.proofs.text.put_operation.Goals as goal

pub returns-clause-before : goal.returns-clause-before
returns-clause-before c =
    before_both _ _ _ _ _ c.put_number.ensures.within c.put_number.ensures.before
    (before_both _ _ _ _ _ c.put_spaced-at-3.ensures.within c.put_spaced-at-3.ensures.before
    (before_both _ _ _ _ _ (omega (arith, c.put_byte-at-2.ensures.at)) c.put_byte-at-2.ensures.before
    (before_both _ _ _ _ _ (omega (arith, c.put_byte-at.ensures.at)) c.put_byte-at.ensures.before
    (before_both _ _ _ _ _ c.put_spaced-at-2.ensures.within c.put_spaced-at-2.ensures.before
    (before_both _ _ _ _ _ c.put_second-at.ensures.within c.put_second-at.ensures.before c.put_spaced-at.ensures.before)))))
