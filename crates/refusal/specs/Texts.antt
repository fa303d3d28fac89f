-- Refusals as text. Assumes nothing.
use Rattle.std.specs.Prelude.{ℕ, List, ◌++◌, codes, decimal}
use Rattle.refusal.specs.declared.Refusal.{Refusal}
use Rattle.refusal.specs.Refusals.{shown}

-- the number and both places, parted by single spaces
abbrev pub refusal_text : Refusal → List ℕ
refusal_text r = decimal (shown r).number ++ (codes " " ++ (decimal (shown r).first ++ (codes " " ++ decimal (shown r).second)))
