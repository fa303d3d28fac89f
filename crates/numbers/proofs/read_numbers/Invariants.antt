use Rattle.numbers.proofs.Rows.{Sofar}
use Rattle.numbers.proofs.read_numbers.Given as goal

abbrev pub invariant-loop-i : goal.invariant-loop-i
invariant-loop-i g l = Sofar g.row.N l.s l.ns l.i l.rest
