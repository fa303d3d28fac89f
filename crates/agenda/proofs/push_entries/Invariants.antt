use Rattle.plan.specs.Entries.{entry_before}
use Rattle.joining.specs.Joined.{Joined}
use Rattle.agenda.proofs.Entries.{first_entries}
use Rattle.agenda.proofs.push_entries.Given as goal

abbrev pub invariant-loop-i : goal.invariant-loop-i
invariant-loop-i l = Joined entry_before (first_entries l.gates l.i) l.initial.queue l.queue
