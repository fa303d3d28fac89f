use Rattle.std.proofs.Common.{◌≡◌, ◌+◌, ◌≤◌, length, take, sym, ap, ◌∙◌, subst, arith}
use Rattle.circuit.specs.declared.action.Action.{Action}
use Rattle.circuit.specs.Operations.{operation_before}
use Rattle.queue.specs.Held.{count, room}
use Rattle.joining.specs.Joined.{Joined}
use Rattle.joining.proofs.Joined.{all_join}
use Rattle.cnot.specs.Steps.{placed}
use Rattle.cnot.proofs.Laying.{length-placed}
use Rattle.lister.specs.Blocks.{action_steps}
use Rattle.lister.proofs.FirstBlocks.{ok_value, written_take}
use Rattle.lister.proofs.blocks.push_routed.Goals as goal

pub returns-clause-joined : goal.returns-clause-joined
returns-clause-joined g c =
    let place = c.args.place in
    let q = c.args.queue.now in
    let n = c.in_ok-count.count in
    let out = c.write_routed.new.out in
    let steps = action_steps c.args.layout.now (g.R.RouteRule.route c.args.rule.now) place.choice (Action.Cnot c.args.control c.args.target) in
    let os = placed place.gate place.start steps in
    let long = length-placed place.gate place.start steps in
    let few : n ≡ length steps = ok_value _ _ _ (sym c.in_ok-count.was ∙ c.write_routed.ensures.answer) in
    let first : take n out ≡ os = written_take os _ out c.write_routed.result n c.in_ok-count.was c.write_routed.ensures.written (few ∙ sym long) in
    let fits : count q + length (take n out) ≤ room q = let e = ap length first in let r = c.requires.room in omega arith in
    subst (λ ys. Joined operation_before ys q c.push_all.new.queue) first (all_join operation_before (take n out) q c.push_all.new.queue c.push_all.result fits c.push_all.ensures.answer c.push_all.ensures.joined).1
