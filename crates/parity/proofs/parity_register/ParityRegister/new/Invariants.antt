-- The wires so far are set to themselves.
use Rattle.std.proofs.Common.{◌≡◌, ◌<◌, ◌^◌, ℕ, length, get_or}
use Rattle.parity.proofs.parity_register.ParityRegister.new.Given as goal

abbrev pub invariant-loop-wire : goal.invariant-loop-wire
invariant-loop-wire l = record { long : length l.words ≡ 32; set : (k : ℕ) → k < l.wire → get_or l.words k 0 ≡ 2 ^ k }
