-- The exclusive or of the wires so far.
use Rattle.std.proofs.Common.{◌≡◌, ◌&&◌}
use Rattle.bits.specs.Bits.{bit}
use Rattle.parity.specs.Vectors.{parity_of}
use Rattle.parity.proofs.parity_register.ends.bit_from.Given as goal

abbrev pub invariant-loop-wire : goal.invariant-loop-wire
invariant-loop-wire l = l.odd ≡ parity_of (λ v. bit l.word v && bit l.start v) l.wire
