-- The first gate that breaks a constraint on gates alone, in the library's word. Assumes nothing.
use Rattle.std.proofs.Common.{◌≡◌, ℕ, not, List, length, sym, ap, ◌∙◌}
use Rattle.std.specs.Prelude.{is_none}
use Rattle.std.specs.List.{position}
use Rattle.std.specs.Option.{option_map}
use Rattle.search.proofs.Searches.{position_first}
use Rattle.refusal.specs.declared.Refusal.{Refusal}
use Rattle.plan.specs.declared.gate.Gate.{Gate}
use Rattle.plan.specs.Plans.{no_gate, choice_or}
use Rattle.plan.specs.Verdicts.{is_offered}
use Rattle.placement.proofs.Firsts.{named_first}
use Rattle.judge.specs.Judging.{untimed_at, untimed, unoffered_at, unoffered}

pub untimed_first : (gs : List Gate) → option_map Refusal.NoTiming (position (λ g. is_none g.timing) gs) ≡ untimed gs
untimed_first gs = ap (option_map Refusal.NoTiming) (position_first (λ g. is_none g.timing) gs no_gate) ∙ sym (named_first Refusal.NoTiming (untimed_at gs) (length gs))

pub unoffered_first : (n : ℕ) (gs : List Gate) → option_map Refusal.ChoiceNotOffered (position (λ g. not (is_offered n g.action (choice_or g.timing))) gs) ≡ unoffered n gs
unoffered_first n gs =
    ap (option_map Refusal.ChoiceNotOffered) (position_first (λ g. not (is_offered n g.action (choice_or g.timing))) gs no_gate)
    ∙ sym (named_first Refusal.ChoiceNotOffered (unoffered_at n gs) (length gs))
