use Rattle.embedded.proofs.Serving.{served_replies}
use Rattle.embedded.proofs.run.replies_to.Goals as goal

pub returns : goal.returns
returns c =
    served_replies c.args.text.now c.in_ok-session.session c.serve.new.responder c.new-replies.result.items c.serve.new.out.items
    c.in_ok-session.ensures c.new-replies.ensures.items c.in_ok-serve.ensures
