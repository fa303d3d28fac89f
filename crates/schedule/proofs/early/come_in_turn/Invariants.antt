use Rattle.schedule.specs.Sweeps.{InTurn}
use Rattle.schedule.proofs.early.come_in_turn.Given as goal

abbrev pub invariant-loop-span : goal.invariant-loop-span
invariant-loop-span l = InTurn l.spans l.free l.span-index
