-- The set of a list of cells below 64 has just the cells of the list. Assumes nothing.
use Rattle.std.proofs.Common.{◌≡◌, ℕ, ◌<◌, ◌&&◌, ◌||◌, eqb, List, [], ◌∷◌, refl, ap, ap₂}
use Rattle.std.specs.List.{AllByRecursion}
use Rattle.std.proofs.lemmas.Bool.{lt-ltb}
use Rattle.orders.specs.Lists.{any}
use Rattle.grid.specs.CellSets.{listed_cells}

pub listed_all : (cs : List ℕ) (c : ℕ) → AllByRecursion (λ d. d < 64) cs → listed_cells cs c ≡ any (eqb c) cs
listed_all [] c h = refl
listed_all (d ∷ ds) c h = ap₂ ◌||◌ (ap (λ t. t && eqb c d) (lt-ltb d 64 h.0)) (listed_all ds c h.1)
