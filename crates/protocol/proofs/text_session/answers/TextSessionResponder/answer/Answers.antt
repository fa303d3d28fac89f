use Rattle.std.proofs.Common.{refl}
use Rattle.protocol.proofs.Answering.{on_ok, malformed_said, command_said}
use Rattle.protocol.proofs.text_session.answers.TextSessionResponder.answer.Goals as goal

pub returns-in-Err : goal.returns-in-Err
returns-in-Err g c =
    on_ok c.print_reply.result
    (malformed_said c.args.self.now c.args.number c.args.line.now c.in-Err.refusal _ _ ((c.in-Err.ensures.malformed c.in-Err.refusal).0 refl))
    c.print_reply.ensures

pub returns : goal.returns
returns g c =
    on_ok c.print_rows.result
    (command_said c.args.self.now c.request-answer.new.self c.args.number c.args.line.now c.in-Ok.command c.request-answer.result.number c.reply_to.result _ _ _ _
    ((c.in-Ok.ensures.command c.in-Ok.command).0 refl) c.request-answer.ensures.answered c.reply_to.ensures c.request-answer.ensures.rows c.in_ok-print_reply.ensures)
    c.print_rows.ensures
