use Rattle.reply.proofs.Decimals.{before_both}
use Rattle.reply.proofs.text.put_line.Goals as goal

pub returns-clause-before : goal.returns-clause-before
returns-clause-before c = before_both _ _ _ _ _ c.put_reply.ensures.within c.put_reply.ensures.before c.put_byte-end.ensures.before
