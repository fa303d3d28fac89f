use Rattle.std.proofs.Common.{rules, subst}
use Rattle.std.specs.List.Sorted.{IsPermutation}
use Rattle.std.proofs.lemmas.List.Sorted.{IsNonDecreasingBy-from_sort_by_key}
use Rattle.spans.specs.declared.span.Span.{Span}
use Rattle.schedule.proofs.Sweeps.{nothing_overlaps}
use Rattle.schedule.proofs.overlap.are_clear_by_start.Goals as goal

pub are_clear-requires : goal.are_clear-requires
are_clear-requires c = IsNonDecreasingBy-from_sort_by_key (λ (s : Span). s.start) _ c.sort_unstable_by_key.ensures.sorted (λ a r q k. search rules)

pub returns : goal.returns
returns c e =
    let p : IsPermutation c.args.spans.now c.sort_unstable_by_key.new.self = subst (λ xs. IsPermutation xs c.sort_unstable_by_key.new.self) c.copy_from_slice.ensures.after c.sort_unstable_by_key.ensures.permutation in
    nothing_overlaps c.args.spans.now c.sort_unstable_by_key.new.self p (c.are_clear.ensures e)
