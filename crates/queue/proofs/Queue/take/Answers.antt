use Rattle.std.proofs.Common.{◌-◌, take, sym, ap, ◌∙◌, arith}
use Rattle.std.proofs.lemmas.List.{length-take}
use Rattle.orders.proofs.Compared.{less_by}
use Rattle.queue.proofs.Leaving.{moved_up, taken_out}
use Rattle.queue.proofs.Queue.take.Goals as goal

pub returns-clause-leaves : goal.returns-clause-leaves
returns-clause-leaves g c =
    let before = g.T.Ranked.before in
    let q = c.args.self.now in
    let less = less_by before g.T.Ord.cmp g.met.T.Ranked.answers in
    taken_out before g.T.Ranked.total q.places.now c.copy_within.new.self q.len c.args.at c.index-self-at.result (omega arith) c.index-self-at.is
    record { within = c.requires.within; first = λ k d h. sym (less _ _) ∙ c.requires.first k d h } c.copy_within.ensures.after

pub returns-clause-front : goal.returns-clause-front
returns-clause-front g c =
    let q = c.args.self.now in
    ap (take (q.len - 1)) c.copy_within.ensures.after ∙ moved_up q.places.now q.len c.args.at (omega (arith, c.requires.within, length-take q.len q.places.now)) (omega arith)
