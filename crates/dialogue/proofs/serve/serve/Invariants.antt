use Rattle.dialogue.proofs.Going.{KnownGoing}
use Rattle.dialogue.proofs.serve.serve.Given as goal

abbrev pub invariant-loop : goal.invariant-loop
invariant-loop g l = KnownGoing g.S.Responder.answers (g.R.Read.remaining l.fn.input) (g.R.Read.remaining l.input) l.fn.responder (g.W.Write.contents l.fn.out) l.line l.responder l.number (g.W.Write.contents l.out)
