use Rattle.std.proofs.Common.{[], ◌∷◌, ◌++◌, take, sym, ap, ◌∙◌, subst}
use Rattle.std.proofs.lemmas.List.{take_more}
use Rattle.joining.specs.Joined.{Joined}
use Rattle.joining.proofs.Joined.{joined_push}
use Rattle.joining.proofs.push_all.Goals as goal

pub loop-x-preserved : goal.loop-x-preserved
loop-x-preserved g c =
    let xs = c.args.xs.now in
    let i = c.loop-x.x-index in
    let before = g.T.Ranked.before in
    let x = c.x-item.result in
    let e = c.push.ensures in
    subst (λ ys. Joined before ys c.args.queue.now c.push.new.self) (ap (λ y. take i xs ++ (y ∷ [])) c.x-item.is ∙ sym (take_more xs i x c.loop-x-test.true))
    (joined_push before (take i xs) x c.args.queue.now c.loop-x.queue c.push.new.self c.push.result c.in_ok-push.field-0 c.loop-x.invariant c.in_ok-push.was e.joins e.counted e.lent)
