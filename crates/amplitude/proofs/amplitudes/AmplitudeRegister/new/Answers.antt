use Rattle.std.proofs.Common.{arith, lit≤}
use Rattle.amplitude.proofs.Sizes.{blank_small}
use Rattle.amplitude.proofs.amplitudes.AmplitudeRegister.new.Goals as goal

pub invariant_of-result : goal.invariant_of-result
invariant_of-result c =
    record {
      few = c.wires_made-wires.ensures.few;
      most = lit≤ tt;
      room = omega (arith, c.wires_made-wires.ensures.room, c.write_blank.ensures.long);
      small = blank_small c.wires_made-wires.result c.write_blank.new.places c.write_blank.ensures.blank;
    }
