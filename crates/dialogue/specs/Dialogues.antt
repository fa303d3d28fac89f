-- Lines answered one after another. Assumes nothing.
use Rattle.std.specs.Prelude.{ℕ, ◌+◌, ◌-◌, ◌^◌, min, List, [], ◌∷◌, ◌++◌, Option, IfSome}
use Rattle.std.specs.Io.KnownBytes.{Appends}
use Rattle.lines.specs.Lines.{lines_of, handed_out}

-- the number of the next line; numbers end at 2 ^ 64 - 1
abbrev pub next_number : ℕ → ℕ
next_number n = min (n + 1) (2 ^ 64 - 1)

-- The lines, the first of which has the number, are answered one after another by these bytes, from the first state to the second.
pub data Dialogue {S : Type 0} (answers : S → ℕ → List ℕ → S → List ℕ → Type 0) : S → ℕ → List (List ℕ) → S → List ℕ → Type 0 where
  over : {s : S} {n : ℕ} → Dialogue answers s n [] s []
  line : {s t u : S} {n : ℕ} {l : List ℕ} {ls : List (List ℕ)} {bs cs : List ℕ} → answers s n l t bs → Dialogue answers t (next_number n) ls u cs → Dialogue answers s n (l ∷ ls) u (bs ++ cs)

-- A piece of a text was answered by the printed bytes, from what was held of a line on: whatever follows the piece, its lines and those that follow are answered by these bytes and then the answers to those.
abbrev pub AnsweredOn : {S : Type 0} → (S → ℕ → List ℕ → S → List ℕ → Type 0) → List ℕ → List ℕ → S → ℕ → List ℕ → S → ℕ → List ℕ → Type 0
AnsweredOn {S} answers piece was s n held t m printed = (rest : List ℕ) (u : S) (qs : List ℕ) → Dialogue answers t m (handed_out held rest) u qs → Dialogue answers s n (handed_out was (piece ++ rest)) u (printed ++ qs)

-- where the text is known, its lines were answered by bytes that were written behind what there was
abbrev pub Served : {S : Type 0} → (S → ℕ → List ℕ → S → List ℕ → Type 0) → Option (List ℕ) → S → S → Option (List ℕ) → Option (List ℕ) → Type 0
Served answers text s t was now = IfSome text (λ bytes. (printed : List ℕ) × Dialogue answers s 1 (lines_of bytes) t printed × Appends was now printed)
