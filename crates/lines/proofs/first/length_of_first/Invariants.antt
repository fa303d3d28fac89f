use Rattle.std.proofs.Common.{length, ◌-◌, ◌≤◌, take}
use Rattle.lines.specs.Lines.{NoLineFeed}
use Rattle.lines.proofs.first.length_of_first.Given as goal

abbrev pub invariant-loop-n : goal.invariant-loop-n
invariant-loop-n l = (l.n ≤ length l.text) × NoLineFeed (take l.n l.text)

abbrev pub decreases-loop-n : goal.decreases-loop-n
decreases-loop-n l = length l.text - l.n
