use Rattle.std.specs.List.{flat_map}
use Rattle.cnot.specs.Links.{times_of, links_of}
use Rattle.cnot.specs.Steps.{swap_over, Laid}
use Rattle.cnot.proofs.write.Writer.swaps.Given as goal

abbrev pub invariant-loop-ends : goal.invariant-loop-ends
invariant-loop-ends g l = Laid (flat_map swap_over (links_of (times_of l.table) l.yielded)) l.initial.self l.self
