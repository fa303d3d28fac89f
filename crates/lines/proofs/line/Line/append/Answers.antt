use Rattle.std.proofs.Common.{◌+◌, ◌≤◌, ◌++◌, length, ap, ◌∙◌, arith, length-take-le}
use Rattle.lines.proofs.Extending.{appended, still_padded}
use Rattle.lines.proofs.line.Line.append.Goals as goal

pub invariant_of-self : goal.invariant_of-self
invariant_of-self c =
    let l = c.self.inside in
    let bytes = c.args.bytes.now in
    let held = length-take-le l.len l.places (omega (arith, c.self.invariant.few, c.self.invariant.long)) in
    let room : l.len + length bytes ≤ 81 = omega (arith, c.requires, held, ap length c.self.view_is) in
    still_padded l.places l.len c.copy_from_slice.new.self (length bytes) _ c.self.invariant (ap length c.copy_from_slice.ensures.after) room (omega arith)

pub returns : goal.returns
returns c =
    let l = c.self.inside in
    let bytes = c.args.bytes.now in
    let held = length-take-le l.len l.places (omega (arith, c.self.invariant.few, c.self.invariant.long)) in
    let room : l.len + length bytes ≤ 81 = omega (arith, c.requires, held, ap length c.self.view_is) in
    appended l.places l.len c.copy_from_slice.new.self (length bytes) _ c.self.invariant (ap length c.copy_from_slice.ensures.after) room (omega arith)
    ∙ (λ i. c.self.view_is i ++ c.copy_from_slice.ensures.after i)
