-- The constraints on homes alone, which ask no calibration and no route rule. Assumes nothing.
use Rattle.std.specs.Prelude.{is_none, ℕ, Bool, ◌&&◌, List, length, Option, nat_lt, slice_index_or}
use Rattle.std.specs.Option.{option_map}
use Rattle.orders.specs.Lists.{any}
use Rattle.search.specs.Searches.{highest, scan_pairs}
use Rattle.refusal.specs.declared.Refusal.{Refusal}
use Rattle.refusal.specs.Refusals.{or_else}
use Rattle.circuit.specs.Actions.{names}
use Rattle.grid.specs.Grids.{Grid}
use Rattle.plan.specs.declared.gate.Gate.{Gate}
use Rattle.plan.specs.Plans.{no_gate, home_among}
use Rattle.plan.specs.Verdicts.{same_home, past_labels}

-- a gate uses the label
abbrev pub uses : List Gate → ℕ → Bool
uses gs l = any (λ g. names g.action l) gs

-- one more than the greatest label that is used
abbrev pub label_bound : List Gate → ℕ
label_bound gs = highest (λ i. past_labels (slice_index_or gs i no_gate).action) (length gs)

-- the label is used and has no home
abbrev pub missing_at : Grid → List (Option ℕ) → List Gate → ℕ → Bool
missing_at g hs gs l = is_none (home_among g hs l) && uses gs l

-- two placed labels have one home
abbrev pub shared_at : Grid → List (Option ℕ) → ℕ → ℕ → Bool
shared_at g hs l m = same_home (home_among g hs l) (home_among g hs m)

-- the lowest label that is used and has no home
abbrev pub missing : Grid → List (Option ℕ) → List Gate → Option Refusal
missing g hs gs = option_map (λ q. Refusal.NoHome q.0) (scan_pairs (λ l j. missing_at g hs gs l) (label_bound gs) 1)

-- the lowest two labels that have one home
abbrev pub shared : Grid → List (Option ℕ) → Option Refusal
shared g hs = option_map (λ q. Refusal.SharedHome q.0 q.1) (scan_pairs (λ l m. nat_lt l m && shared_at g hs l m) (length hs) (length hs))

-- the first of the two constraints that is broken
abbrev pub homes_broken : Grid → List (Option ℕ) → List Gate → Option Refusal
homes_broken g hs gs = or_else (missing g hs gs) (shared g hs)
