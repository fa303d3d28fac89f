use Rattle.std.proofs.Common.{take, subst}
use Rattle.std.specs.Io.KnownBytes.{Consumes}
use Rattle.dialogue.proofs.Going.{known_piece, known_end}
use Rattle.dialogue.proofs.serve.serve.Goals as goal

pub loop-preserved : goal.loop-preserved
loop-preserved g c =
    known_piece g.S.Responder.answers _ _ _ _ _ _ _ (take c.in_ok-count.count c.read_piece.new.piece) _ _ _ _ _ _ _
    c.in_ok-count.ensures.bytes c.in_ok-answer_piece.ensures c.in_ok-flush-2.ensures.bytes c.loop.invariant

pub returns-then-count-eq0 : goal.returns-then-count-eq0
returns-then-count-eq0 g c =
    known_end g.S.Responder.answers g.met.S.Responder.beginning _ _ _ _ _ _ _ _ _ _ _ _
    (subst (λ n. Consumes (g.R.Read.remaining c.loop.input) (g.R.Read.remaining c.read_piece.new.input) (take n c.read_piece.new.piece)) c.if-count-eq0.true c.in_ok-count.ensures.bytes)
    (c.in_ok-count.ensures.end c.if-count-eq0.true)
    c.in_ok-answer_last.ensures c.in_ok-flush.ensures.bytes c.loop.invariant
