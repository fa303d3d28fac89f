use Rattle.std.proofs.Common.{◌≡◌, length, sym, ap, ◌∙◌, subst, arith}
use Rattle.circuit.specs.Operations.{operation_before}
use Rattle.joining.specs.Joined.{Joined}
use Rattle.joining.proofs.Joined.{joined_none, joined_then}
use Rattle.lister.proofs.FirstBlocks.{first_blocks, block_at, no_blocks, all_blocks, blocks_more, block_within}
use Rattle.lister.proofs.blocks.push_gates.Goals as goal

pub loop-i-init : goal.loop-i-init
loop-i-init g c =
    let q = c.args.queue.now in
    subst (λ os. Joined operation_before os q q) (sym (no_blocks c.args.layout.now (g.R.RouteRule.route c.args.rule.now) c.args.gates.now)) (joined_none operation_before q)

pub push_gate-requires-clause-room : goal.push_gate-requires-clause-room
push_gate-requires-clause-room g c =
    let w = block_within c.args.layout.now (g.R.RouteRule.route c.args.rule.now) c.args.gates.now c.loop-i.i c.loop-i-test.true in
    let k = c.loop-i.invariant.counted in
    let l = c.loop-i.invariant.lent.long in
    let h = c.requires.room in
    omega arith

pub loop-i-preserved : goal.loop-i-preserved
loop-i-preserved g c =
    let l = c.args.layout.now in
    let R = g.R.RouteRule.route c.args.rule.now in
    let gs = c.args.gates.now in
    let i = c.loop-i.i in
    let q = c.args.queue.now in
    subst (λ os. Joined operation_before os q c.push_gate.new.queue) (sym (blocks_more l R gs i))
    (joined_then operation_before (first_blocks l R gs i) (block_at l R gs i) q c.loop-i.queue c.push_gate.new.queue c.loop-i.invariant c.push_gate.ensures.joined)

pub returns-clause-joined : goal.returns-clause-joined
returns-clause-joined g c =
    let l = c.args.layout.now in
    let R = g.R.RouteRule.route c.args.rule.now in
    let gs = c.args.gates.now in
    let e : c.loop-i.i ≡ length gs = omega arith in
    subst (λ os. Joined operation_before os c.args.queue.now c.loop-i.queue) (ap (first_blocks l R gs) e ∙ all_blocks l R gs) c.loop-i.invariant
