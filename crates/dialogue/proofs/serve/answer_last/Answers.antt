use Rattle.dialogue.proofs.Going.{last_none, last_some}
use Rattle.dialogue.proofs.serve.answer_last.Goals as goal

pub returns-in_default : goal.returns-in_default
returns-in_default g c = last_none g.S.Responder.answers _ _ _ _ c.in_default.ensures

pub returns : goal.returns
returns g c =
    last_some g.S.Responder.answers _ _ _ _ c.in-Some.ended c.bytes.result.now _ _ c.in-Some.ensures c.bytes.ensures.value c.in_ok-answer.ensures
