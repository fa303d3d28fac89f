-- The bits of the wires so far.
use Rattle.std.proofs.Common.{◌≡◌, get_or}
use Rattle.parity.specs.Vectors.{word_bit, number_of}
use Rattle.parity.proofs.parity_register.ParityRegister.end_from.Given as goal

abbrev pub invariant-loop-wire : goal.invariant-loop-wire
invariant-loop-wire l = l.end ≡ number_of (λ w. word_bit l.self.wires l.start (get_or l.self.words w 0)) l.wire
