use Rattle.std.proofs.Common.{◌∷◌, ap, arith, length, length-append}
use Rattle.dialogue.proofs.Going.{front_first, front_line, front_part}
use Rattle.dialogue.proofs.serve.answer_piece.Goals as goal

pub loop-end-init : goal.loop-end-init
loop-end-init g c = front_first g.S.Responder.answers _ _ _ _ _

pub loop-end-smaller : goal.loop-end-smaller
loop-end-smaller g c =
    let end = c.in-Some.end.now in
    let after = c.in-Some.after.now in
    omega (arith, ap length c.in-Some.ensures.1, length-append end (10 ∷ after))

pub loop-end-preserved : goal.loop-end-preserved
loop-end-preserved g c =
    front_line g.S.Responder.answers _ _ _ _ _ _ _ _ _ _ c.in-Some.end.now c.in-Some.after.now _ _ _ _
    c.in-Some.ensures.1 c.in_ok-answer_line.ensures c.loop-end.invariant

pub returns : goal.returns
returns g c =
    front_part g.S.Responder.answers _ _ _ _ _ _ _ _ _ _ _ c.in_default.ensures c.extend.ensures.few c.extend.ensures.after c.loop-end.invariant
