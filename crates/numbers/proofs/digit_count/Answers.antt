use Rattle.std.proofs.Common.{◌≡◌, get_or, drop, ap, ◌∙◌, subst, add-zero, arith, length-drop, get_or-drop}
use Rattle.std.specs.Int.{IsInRange}
use Rattle.std.proofs.lemmas.Int.Digits.{digits_more}
use Rattle.std.proofs.lemmas.Str.Parse.{digit_from_value}
use Rattle.numbers.proofs.digit_count.Goals as goal

pub loop-n-preserved : goal.loop-n-preserved
loop-n-preserved c =
    (omega arith, digits_more 10 c.args.s.now c.loop-n.n c.loop-n-test.true c.loop-n.invariant.1 c.if-is_ascii_digit.ensures.bound)

pub returns-else-is_ascii_digit : goal.returns-else-is_ascii_digit
returns-else-is_ascii_digit c =
    let here : get_or (drop c.loop-n.n c.args.s.now) 0 0 ≡ get_or c.args.s.now c.loop-n.n 0 =
    get_or-drop c.loop-n.n c.args.s.now 0 0 ∙ ap (λ i. get_or c.args.s.now i 0) (add-zero c.loop-n.n) in
    record {
      within = c.loop-n.invariant.0;
      digits = c.loop-n.invariant.1;
      stops = λ h d. let x = subst (IsInRange 48 57) here (digit_from_value _ d) in omega (arith, c.if-is_ascii_digit.ensures.cases);
    }

pub returns-after-loop-n : goal.returns-after-loop-n
returns-after-loop-n c =
    record {
      within = c.loop-n.invariant.0;
      digits = c.loop-n.invariant.1;
      stops = λ h d. omega (arith, length-drop c.loop-n.n c.args.s.now);
    }
