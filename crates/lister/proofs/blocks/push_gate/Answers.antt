use Rattle.std.proofs.Common.{◌≡◌, length, sym, ◌∙◌, ap₂, arith}
use Rattle.circuit.specs.declared.action.Action.{Action}
use Rattle.cnot.proofs.Laying.{length-placed}
use Rattle.plan.specs.Plans.{start_or}
use Rattle.lister.specs.Blocks.{action_steps, gate_steps, gate_block}
use Rattle.lister.proofs.blocks.push_gate.Goals as goal

pub push_routed-requires-clause-room : goal.push_routed-requires-clause-room
push_routed-requires-clause-room g c =
    let l = c.args.layout.now in
    let R = g.R.RouteRule.route c.args.rule.now in
    let gate = c.args.gate.now in
    let e : length (gate_block l R c.args.number gate) ≡ length (action_steps l R c.choice.result (Action.Cnot c.in-Cnot.control c.in-Cnot.target)) =
    length-placed c.args.number (start_or gate.timing) (gate_steps l R gate) ∙ ap₂ (λ k x. length (action_steps l R k x)) (sym c.choice.ensures) c.in-Cnot.is in
    let r = c.requires.room in
    omega arith
