-- The lines of a text, and how they are read. Assumes nothing.
use Rattle.std.specs.Prelude.{◌≡◌, ℕ, false, List, [], ◌∷◌, ◌++◌, map, take, cond, Option, Some, None, MatchOption, ◌==◌}
use Rattle.std.specs.List.{AllByRecursion}
use Rattle.std.specs.Borrow.{Bor}

-- the lines with a byte in front
abbrev pub in_front : ℕ → List (List ℕ) → List (List ℕ)
in_front b [] = (b ∷ []) ∷ []
in_front b (l ∷ ls) = (b ∷ l) ∷ ls

-- the lines of a text: each ends at a line feed, which is no part of it; what follows the last line feed is a line unless it is empty
abbrev pub lines_of : List ℕ → List (List ℕ)
lines_of [] = []
lines_of (b ∷ bs) = cond (b == 10) ([] ∷ lines_of bs) (in_front b (lines_of bs))

-- what is left at the end of the text
abbrev pub last_line : List ℕ → Option (List ℕ)
last_line [] = None
last_line (b ∷ bs) = Some (b ∷ bs)

-- the line in front, where there is one
abbrev pub with_line : Option (List ℕ) → List (List ℕ) → List (List ℕ)
with_line None ls = ls
with_line (Some l) ls = l ∷ ls

-- the lines that are handed out, where these bytes are held of the first: each at its line feed, and what is left at the end
abbrev pub handed_out : List ℕ → List ℕ → List (List ℕ)
handed_out held [] = with_line (last_line held) []
handed_out held (b ∷ bs) = cond (b == 10) (held ∷ handed_out [] bs) (handed_out (take 81 (held ++ b ∷ [])) bs)

-- what is kept of a line
abbrev pub kept_of : List ℕ → List ℕ
kept_of l = take 81 l

-- beginning with no byte, the lines of a text are handed out, of those longer than 80 bytes the first 81
abbrev pub FeedingGivesLines : Type 0
FeedingGivesLines = (text : List ℕ) → handed_out [] text ≡ map kept_of (lines_of text)

-- no line ends in the bytes
abbrev pub NoLineFeed : List ℕ → Type 0
NoLineFeed bs = AllByRecursion (λ b. (b == 10) ≡ false) bs

-- the first line that ends in the text, and what follows its line feed; or none where no line ends
abbrev pub FirstLine : List ℕ → Option (Bor (List ℕ) × Bor (List ℕ)) → Type 0
FirstLine text r = MatchOption r (NoLineFeed text) (λ p. NoLineFeed p.0.now × (text ≡ p.0.now ++ 10 ∷ p.1.now))
