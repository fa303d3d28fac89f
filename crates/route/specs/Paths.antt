-- Paths over cells. Assumes nothing.
use Rattle.std.specs.Prelude.{◌≡◌, ℕ, ◌≢◌, List, [], ◌∷◌, take}
use Rattle.orders.specs.Lists.{Pairs}
use Rattle.grid.specs.Grids.{Grid, Neighbours}
use Rattle.route.specs.declared.path.Path.{Path}

-- the cells of a path in the code
abbrev pub path_cells : Path → List ℕ
path_cells p = take p.len p.places

-- R holds of each two that follow one another, from a on
abbrev pub Chain : (ℕ → ℕ → Type 0) → ℕ → List ℕ → Type 0
Chain R a [] = Unit {0}
Chain R a (b ∷ cs) = R a b × Chain R b cs

-- R holds of each two of a path that follow one another
abbrev pub Linked : (ℕ → ℕ → Type 0) → List ℕ → Type 0
Linked R [] = Unit {0}
Linked R (a ∷ cs) = Chain R a cs

-- the last of b, cs
abbrev pub last : ℕ → List ℕ → ℕ
last b [] = b
last b (c ∷ cs) = last c cs

-- the path runs from a to z
abbrev pub FromTo : ℕ → ℕ → List ℕ → Type 0
FromTo a z [] = ⊥
FromTo a z (c ∷ cs) = (c ≡ a) × (last c cs ≡ z)

-- no cell is met twice
abbrev pub NoTwice : List ℕ → Type 0
NoTwice cs = Pairs (λ a b. a ≢ b) cs

-- each step goes to a neighbour
abbrev pub Stepped : Grid → List ℕ → Type 0
Stepped g cs = Linked (Neighbours g) cs
