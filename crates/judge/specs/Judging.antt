-- The parts of judging that stand between homes and spans. Assumes nothing.
use Rattle.std.specs.Prelude.{is_none, ◌≡◌, ℕ, ◌<◌, Bool, not, List, length, Option, nat_lt, slice_index_or}
use Rattle.std.specs.Option.{option_map}
use Rattle.search.specs.Searches.{scan_pairs}
use Rattle.refusal.specs.declared.Refusal.{Refusal}
use Rattle.refusal.specs.Refusals.{refuse_if, or_else}
use Rattle.grid.specs.Members.{has}
use Rattle.route.specs.Routes.{Route}
use Rattle.plan.specs.declared.gate.Gate.{Gate}
use Rattle.plan.specs.Plans.{Plan, no_gate, choice_or, action_at, start_at}
use Rattle.plan.specs.Durations.{end_at, reserved}
use Rattle.plan.specs.Verdicts.{is_offered, too_early, overlap, too_late, found}
use Rattle.placement.specs.Placements.{homes_broken}
use Rattle.spans.specs.declared.span.Span.{Span}
use Rattle.schedule.specs.Schedules.{span_at}

-- the gate g has no timing
abbrev pub untimed_at : List Gate → ℕ → Bool
untimed_at gs g = is_none (slice_index_or gs g no_gate).timing

-- the first gate that has none
abbrev pub untimed : List Gate → Option Refusal
untimed gs = option_map (λ q. Refusal.NoTiming q.0) (scan_pairs (λ g j. untimed_at gs g) (length gs) 1)

-- the choice of the gate g is not offered, where there are n
abbrev pub unoffered_at : ℕ → List Gate → ℕ → Bool
unoffered_at n gs g = not (is_offered n (slice_index_or gs g no_gate).action (choice_or (slice_index_or gs g no_gate).timing))

-- the first gate whose choice is not offered
abbrev pub unoffered : ℕ → List Gate → Option Refusal
unoffered n gs = option_map (λ q. Refusal.ChoiceNotOffered q.0) (scan_pairs (λ g j. unoffered_at n gs g) (length gs) 1)

-- the span of the gate i
pub record SpanOf (p : Plan) (R : Route) (i : ℕ) (s : Span) : Type 0 where
  pub action : s.action ≡ action_at p i
  pub start : s.start ≡ start_at p i
  pub end : s.end ≡ end_at p R i
  pub cells : has s.cells ≡ reserved p R i

-- the first n of the list are the spans of the first n gates of the plan
abbrev pub SpansOf : Plan → Route → ℕ → List Span → Type 0
SpansOf p R n ss = (i : ℕ) → i < n → SpanOf p R i (span_at ss i)

-- the first of the last three constraints that is broken
abbrev pub last_three : Plan → Route → Option Refusal
last_three p R = or_else (found p R too_early) (or_else (found p R overlap) (found p R too_late))

-- more than 256 gates
abbrev pub too_many : List Gate → Option Refusal
too_many gs = refuse_if (nat_lt 256 (length gs)) Refusal.ProgramFull

-- what judging refuses for, part by part
abbrev pub broken_by_parts : Plan → Route → Option Refusal
broken_by_parts p R =
    or_else (too_many p.gates) (or_else (homes_broken p.machine p.homes p.gates) (or_else (untimed p.gates) (or_else (unoffered R.choices p.gates) (last_three p R))))
