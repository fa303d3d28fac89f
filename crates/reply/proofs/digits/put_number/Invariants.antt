use Rattle.std.proofs.Common.{◌≡◌, ◌+◌, ◌≤◌, ◌++◌, length, drop, take}
use Rattle.std.specs.Fmt.{decimal}
use Rattle.reply.proofs.digits.put_number.Given as goal

abbrev pub invariant-loop-left : goal.invariant-loop-left
invariant-loop-left l =
    (l.at ≤ l.end) × (take l.at l.places ≡ take l.at l.fn.places) × (l.at + length (decimal l.number) ≡ l.end + length (decimal l.left)) × (decimal l.left ++ drop l.at l.places ≡ decimal l.number ++ drop l.end l.fn.places)

abbrev pub decreases-loop-left : goal.decreases-loop-left
decreases-loop-left l = l.left
