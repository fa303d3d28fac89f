use Rattle.std.proofs.Common.{◌≡◌, ◌+◌, get_or, None, sym, ap, ◌∙◌, arith}
use Rattle.circuit.specs.Actions.{is_h}
use Rattle.circuit.specs.Operations.{one_if}
use Rattle.register.specs.Runs.{no_operation}
use Rattle.rehearsal.proofs.Steps.{after_more, applies_at, size_next, h_next, not_err}
use Rattle.rehearsal.proofs.apply_all.Given.{Over}
use Rattle.rehearsal.proofs.apply_all.Goals as goal

refused : (g : Over) (c : goal.After-from_residual g) → ⊥
refused g c =
    let G = g.G.GateRegister in
    let x = c.args.register.now in
    let y = c.loop-operation.register in
    let v = c.loop-operation.invariant in
    not_err _ tt _ _ c.in_err-apply.was c.apply.ensures.answer
    (applies_at G.model G.most (G.state x) (G.done x) None c.args.operations.now c.requires c.loop-operation.operation-index no_operation c.loop-operation-test.true (G.state y) (G.done y) v.sized v.counted)

pub returns-in_err-apply-clause-answer : goal.returns-in_err-apply-clause-answer
returns-in_err-apply-clause-answer g c = absurd (refused g c)

pub returns-in_err-apply-clause-acted : goal.returns-in_err-apply-clause-acted
returns-in_err-apply-clause-acted g c = absurd (refused g c)

pub returns-in_err-apply-clause-counted : goal.returns-in_err-apply-clause-counted
returns-in_err-apply-clause-counted g c = absurd (refused g c)

pub loop-operation-preserved : goal.loop-operation-preserved
loop-operation-preserved g c =
    let G = g.G.GateRegister in
    let x = c.args.register.now in
    let y = c.loop-operation.register in
    let os = c.args.operations.now in
    let i = c.loop-operation.operation-index in
    let h = c.loop-operation-test.true in
    let o = get_or os i no_operation in
    let v = c.loop-operation.invariant in
    let acted : G.state c.apply.new.self ≡ G.model.act o.action (G.state y) = c.in_ok-apply.ensures.acted in
    let counted : G.done c.apply.new.self ≡ G.done y + one_if (is_h o.action) = c.in_ok-apply.ensures.counted in
    record {
      within = omega arith;
      acted = acted ∙ ap (G.model.act o.action) v.acted ∙ sym (after_more G.model os i no_operation (G.state x) h);
      sized = ap G.model.size acted ∙ size_next G.model G.most (G.state x) (G.done x) None os c.requires i no_operation h (G.state y) v.sized;
      counted = counted ∙ h_next G.model G.most (G.state x) (G.done x) None os c.requires i no_operation h (G.done y) v.counted;
    }
