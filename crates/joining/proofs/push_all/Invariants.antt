use Rattle.std.proofs.Common.{take}
use Rattle.joining.specs.Joined.{Joined}
use Rattle.joining.proofs.push_all.Given as goal

abbrev pub invariant-loop-x : goal.invariant-loop-x
invariant-loop-x g l = Joined g.T.Ranked.before (take l.x-index l.xs) l.initial.queue l.queue
