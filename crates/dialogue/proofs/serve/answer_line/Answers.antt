use Rattle.std.proofs.Common.{◌∙◌}
use Rattle.dialogue.proofs.Going.{answered_line}
use Rattle.dialogue.proofs.serve.answer_line.Goals as goal

pub returns : goal.returns
returns g c =
    answered_line g.S.Responder.answers _ _ _ _ _ c.bytes.result.now _ _ _ _
    c.requires c.extend.ensures.few (c.bytes.ensures.value ∙ c.extend.ensures.after) c.new.ensures c.number_after.ensures c.in_ok-answer.ensures
