use Rattle.std.proofs.Common.{◌≡◌, ◌<◌, ◌++◌, [], ◌∷◌, length, map, sym, ap, ◌∙◌, zero-add, arith}
use Rattle.std.specs.List.{range_with_len}
use Rattle.std.proofs.lemmas.List.{take_more_set}
use Rattle.std.proofs.lemmas.List.FromFn.{map-range_with_len_more}
use Rattle.circuit.specs.declared.operation.Operation.{Operation}
use Rattle.plan.specs.Blocks.{direct_step}
use Rattle.direct.specs.Directs.{placed_plan}
use Rattle.direct.proofs.steps.write_steps.Goals as goal

pub loop-number-preserved : goal.loop-number-preserved
loop-number-preserved c =
    let p = placed_plan c.args.homes.now c.args.gates.now in
    let i = c.loop-number.number in
    let step : Operation = record { start = 0; length = 0; action = c.at_homes.result; gate = i } in
    let same : step ≡ direct_step p i = ap (λ x. record { start = 0; length = 0; action = x; gate = i }) (c.at_homes.ensures c.args.gates.now) in
    let long = c.loop-number.auto.steps in
    let room : i < length c.loop-number.steps = omega arith in
    record {
      within = omega arith;
      written = take_more_set c.loop-number.steps i step room ∙ ap (λ os. os ++ (step ∷ [])) c.loop-number.invariant.written ∙ ap (λ o. map (direct_step p) (range_with_len 0 i) ++ (o ∷ [])) same ∙ sym (map-range_with_len_more (direct_step p) 0 i i (zero-add i));
    }
