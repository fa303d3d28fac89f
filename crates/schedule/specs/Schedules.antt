-- The constraints on a list of spans. Assumes nothing.
use Rattle.std.specs.Prelude.{ℕ, Bool, cond, ◌&&◌, List, length, None, Option, nat_lt, slice_index_or}
use Rattle.std.specs.Option.{option_map, option_or}
use Rattle.search.specs.Searches.{some_below, highest, scan_pairs}
use Rattle.refusal.specs.declared.Refusal.{Refusal}
use Rattle.refusal.specs.Refusals.{or_else}
use Rattle.circuit.specs.declared.action.Single.{Single}
use Rattle.circuit.specs.declared.action.Action.{Action}
use Rattle.circuit.specs.Actions.{share, wire_at}
use Rattle.grid.specs.declared.cell_set.CellSet.{CellSet}
use Rattle.grid.specs.Members.{has}
use Rattle.plan.specs.Plans.{Plan}
use Rattle.plan.specs.Verdicts.{late_at, home_or}
use Rattle.spans.specs.declared.span.Span.{Span}

-- what stands where there is no span
abbrev pub no_span : Span
no_span = record { action = Action.One Single.H 0; start = 0; end = 0; cells = record { bits = 0 } }

-- the sets have a common cell
abbrev pub meeting : CellSet → CellSet → Bool
meeting s t = some_below (λ c. has s c && has t c) 64

-- the second starts before the first, with which it shares a label, ends
abbrev pub starts_too_early : Span → Span → Bool
starts_too_early s t = nat_lt t.start s.end && share s.action t.action

-- each starts before the other ends, and they reserve a common cell
abbrev pub overlaps : Span → Span → Bool
overlaps s t = nat_lt s.start t.end && (nat_lt t.start s.end && meeting s.cells t.cells)

module _ (p : Plan) (s : Span) where
  -- the label of a gate at place q, where its home's window is over when the gate ends
  abbrev pub late_label : ℕ → Option ℕ
  late_label q = cond (late_at p s.end (wire_at q s.action)) (wire_at q s.action) None

  -- the first such label: that of the control before that of the target
  abbrev pub first_late_label : Option ℕ
  first_late_label = option_or (late_label 0) (late_label 1)

module _ (ss : List Span) where
  -- the span of the gate i
  abbrev pub span_at : ℕ → Span
  span_at i = slice_index_or ss i no_span

  -- the gate j starts before i, with which it shares a label, ends
  abbrev pub early_at : ℕ → ℕ → Bool
  early_at i j = nat_lt (span_at j).start (span_at i).end && share (span_at i).action (span_at j).action

  -- each starts before the other ends, and they reserve a common cell
  abbrev pub overlap_at : ℕ → ℕ → Bool
  overlap_at i j = nat_lt (span_at i).start (span_at j).end && (nat_lt (span_at j).start (span_at i).end && meeting (span_at i).cells (span_at j).cells)

  -- the first two gates of which the later starts too early
  abbrev pub early : Option Refusal
  early = option_map (λ q. Refusal.TooEarly q.0 q.1) (scan_pairs (λ i j. nat_lt i j && early_at i j) (length ss) (length ss))

  -- the first two gates that overlap
  abbrev pub overlapping : Option Refusal
  overlapping = option_map (λ q. Refusal.Overlap q.0 q.1) (scan_pairs (λ i j. nat_lt i j && overlap_at i j) (length ss) (length ss))

  -- the latest end, 0 where there is no span
  abbrev pub latest : ℕ
  latest = highest (λ i. (span_at i).end) (length ss)

module _ (p : Plan) (ss : List Span) where
  -- the window of the home of the label at place q of the gate i is over when the gate ends
  abbrev pub span_late : ℕ → ℕ → Bool
  span_late i q = late_at p (span_at ss i).end (wire_at q (span_at ss i).action)

  -- the first gate that ends after a window, with the cell
  abbrev pub late : Option Refusal
  late = option_map (λ q. Refusal.PastWindow q.0 (home_or p (wire_at q.1 (span_at ss q.0).action))) (scan_pairs span_late (length ss) 2)

  -- the first of the three constraints that is broken
  abbrev pub schedule_broken : Option Refusal
  schedule_broken = or_else (early ss) (or_else (overlapping ss) late)
