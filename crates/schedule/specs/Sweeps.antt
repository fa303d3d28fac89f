-- From when on labels are free, as a pass over the gates in program order keeps it. Assumes nothing.
use Rattle.std.specs.Prelude.{◌≡◌, ℕ, ◌<◌, ◌≤◌, Bool, true, false, List, slice_index_or}
use Rattle.circuit.specs.Actions.{names}
use Rattle.spans.specs.declared.span.Span.{Span}
use Rattle.schedule.specs.Schedules.{span_at, early_at}

-- from when on the label is free
abbrev pub free_from : List ℕ → ℕ → ℕ
free_from free l = slice_index_or free l 0

-- A gate's labels are free again when it has ended, and none is sooner than it was. Where the answer is yes, they were free when it started.
pub record Taken (s : Span) (was now : List ℕ) (answer : Bool) : Type 0 where
  pub later : (l : ℕ) → free_from was l ≤ free_from now l
  pub ended : (l : ℕ) → names s.action l ≡ true → s.end ≤ free_from now l
  pub waited : answer ≡ true → (l : ℕ) → names s.action l ≡ true → free_from was l ≤ s.start

-- No one of the first n gates starts too early, and their labels are free when they have ended.
pub record InTurn (ss : List Span) (free : List ℕ) (n : ℕ) : Type 0 where
  pub clear : (i j : ℕ) → i < j → j < n → early_at ss i j ≡ false
  pub ended : (i l : ℕ) → i < n → names (span_at ss i).action l ≡ true → (span_at ss i).end ≤ free_from free l
