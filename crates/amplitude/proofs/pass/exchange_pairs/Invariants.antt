use Rattle.std.proofs.Common.{◌≡◌, length}
use Rattle.amplitude.specs.declared.pair.PairGate.{PairGate}
use Rattle.amplitude.specs.Pairs.{DoneBelow}
use Rattle.amplitude.proofs.pass.exchange_pairs.Given as goal

abbrev pub invariant-loop-i : goal.invariant-loop-i
invariant-loop-i l = record {
  so_far : DoneBelow (PairGate.Flip l.control) l.wires l.wire l.i l.initial.places l.places;
  long : length l.places ≡ length l.initial.places;
}
