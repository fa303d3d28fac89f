use Rattle.grid.specs.Members.{has}
use Rattle.route.specs.Ends.{ends_of}
use Rattle.rules.specs.Bends.{in_rectangle}
use Rattle.rules.proofs.Scans.{Scanned}
use Rattle.rules.proofs.rectangle.RectangleRouteRule.reserved.Given as goal

abbrev pub invariant-loop-cell : goal.invariant-loop-cell
invariant-loop-cell l = Scanned (in_rectangle (ends_of l.ends).grid (ends_of l.ends).from (ends_of l.ends).to) l.cell (has l.set)
