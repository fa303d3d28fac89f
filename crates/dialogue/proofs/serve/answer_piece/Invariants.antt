use Rattle.std.proofs.Common.{length}
use Rattle.dialogue.proofs.Going.{AnsweredFront}
use Rattle.dialogue.proofs.serve.answer_piece.Given as goal

abbrev pub invariant-loop-end : goal.invariant-loop-end
invariant-loop-end g l = AnsweredFront g.S.Responder.answers l.piece l.initial.line l.initial.responder l.initial.number (g.W.Write.contents l.initial.out) l.rest l.line l.responder l.number (g.W.Write.contents l.out)

abbrev pub decreases-loop-end : goal.decreases-loop-end
decreases-loop-end g l = length l.rest
