use Rattle.std.proofs.Common.{◌≡◌, ◌∷◌, ◌++◌, get_or, sym, ap, ◌∙◌, subst, arith}
use Rattle.std.specs.Str.Parse.{AllDigits}
use Rattle.numbers.specs.Numbers.{IsShort, NoDigitFirst, spaced}
use Rattle.numbers.proofs.Nums.{after-space, no_number, a-number}
use Rattle.numbers.proofs.read_number.Goals as goal

pub returns-then-not-is_plain : goal.returns-then-not-is_plain
returns-then-not-is_plain c m t a q e =
    let space : get_or c.args.s.now 0 0 ≡ 32 = omega arith in
    let parts = c.split_at.ensures in
    let whole = after-space c.args.s.now space ∙ ap (λ l. 32 ∷ l) parts.by_index.0 in
    no_number _ _ (subst (AllDigits 10) (sym parts.front) c.digit_count.ensures.digits) (subst NoDigitFirst (sym parts.back) c.digit_count.ensures.stops) c.if-not-is_plain.ensures m t a q (sym whole ∙ e)

pub returns : goal.returns
returns c =
    let space : get_or c.args.s.now 0 0 ≡ 32 = omega arith in
    let parts = c.split_at.ensures in
    let whole = after-space c.args.s.now space ∙ ap (λ l. 32 ∷ l) parts.by_index.0 in
    let good = a-number _ c.split_at.result.1.now (subst (AllDigits 10) (sym parts.front) c.digit_count.ensures.digits) c.if-not-is_plain.ensures in
    let is = c.number_of.ensures in
    (subst IsShort (sym is) good.0, subst NoDigitFirst (sym parts.back) c.digit_count.ensures.stops, whole ∙ good.1 ∙ ap (λ k. spaced k ++ c.split_at.result.1.now) (sym is))
