use Rattle.std.proofs.Common.{◌∙◌, arith}
use Rattle.circuit.specs.Actions.{is_h}
use Rattle.amplitude.specs.Sizes.{vector}
use Rattle.amplitude.proofs.Sizes.{small_within, still_small, byte_is}
use Rattle.amplitude.proofs.amplitudes.AmplitudeRegister.act.Goals as goal

pub act_on_places-requires-clause-small : goal.act_on_places-requires-clause-small
act_on_places-requires-clause-small c =
    let r = c.args.self.now in
    λ i. small_within r.h_done (vector r.wires r.places.now i) r.most (r.small i)

pub invariant_of-self : goal.invariant_of-self
invariant_of-self c =
    let r = c.args.self.now in
    let e = c.from.ensures ∙ byte_is c.is_h.result (is_h c.args.action) c.is_h.ensures in
    record {
      few = r.few;
      most = omega (arith, e, c.requires.few);
      room = omega (arith, r.room, c.act_on_places.ensures.long);
      small = still_small r.wires r.h_done c.from.result c.args.action r.places.now c.act_on_places.new.places e c.act_on_places.ensures.acted r.small;
    }
