use Rattle.std.proofs.Common.{get_or, ap, ◌∙◌, arith, take_all}
use Rattle.std.specs.Str.Parse.{digits_value}
use Rattle.std.proofs.lemmas.Int.Digits.{digits_value_more, digits_more}
use Rattle.std.proofs.lemmas.Str.Parse.{digit_at}
use Rattle.numbers.proofs.Nums.{so_far, digit-is}
use Rattle.numbers.proofs.number_of.Goals as goal

pub overflow_mul-n : goal.overflow_mul-n
overflow_mul-n c = omega (arith, so_far _ _ _ c.loop-d.invariant.0 c.loop-d.invariant.1 c.loop-d-test.true c.requires.short)

pub overflow_sub-d : goal.overflow_sub-d
overflow_sub-d c = (digit_at c.args.ds.now c.loop-d.d-index c.requires.digits c.loop-d-test.true).0

pub overflow_add-n : goal.overflow_add-n
overflow_add-n c = omega (arith, so_far _ _ _ c.loop-d.invariant.0 c.loop-d.invariant.1 c.loop-d-test.true c.requires.short, digit_at c.args.ds.now c.loop-d.d-index c.requires.digits c.loop-d-test.true)

pub loop-d-preserved : goal.loop-d-preserved
loop-d-preserved c =
    let i = c.loop-d.d-index in
    let ds = c.args.ds.now in
    let in-range = digit_at ds i c.requires.digits c.loop-d-test.true in
    let d = digit-is (get_or ds i 0) in-range in
    (omega (arith, c.loop-d.invariant.0, digits_value_more 10 ds i c.loop-d-test.true, d, c.from.ensures), digits_more 10 ds i c.loop-d-test.true c.loop-d.invariant.1 (omega (arith, d, in-range)))

pub returns : goal.returns
returns c = c.loop-d.invariant.0 ∙ ap (digits_value 10) (take_all _ _ c.loop-d-test.false)
