-- Routes: what a rule gives for two cells of a grid and a choice, and when it is lawful. Assumes nothing.
use Rattle.std.specs.Prelude.{◌≡◌, ℕ, ◌<◌, ◌≤◌, Bool, true, ◌≢◌, List}
use Rattle.std.specs.List.{AllByRecursion}
use Rattle.grid.specs.Grids.{Grid, GridFit, cells}
use Rattle.route.specs.Ends.{Ends}
use Rattle.route.specs.Paths.{FromTo, NoTwice, Stepped}

-- how many choices there are; for a grid, two cells and a choice the path and the reserved cells
pub record Route : Type 0 where
  pub choices : ℕ
  pub path : Grid → ℕ → ℕ → ℕ → List ℕ
  pub reserved : Grid → ℕ → ℕ → ℕ → ℕ → Bool

-- the path between two ends, and the cells reserved
abbrev pub path_between : Route → Ends → ℕ → List ℕ
path_between R e choice = R.path e.grid e.from e.to choice

abbrev pub reserved_between : Route → Ends → ℕ → ℕ → Bool
reserved_between R e choice = R.reserved e.grid e.from e.to choice

-- the path runs from a to z between neighbours and meets no cell twice; all its cells, and only the grid's, are reserved
pub record Runs (g : Grid) (a z : ℕ) (path : List ℕ) (reserved : ℕ → Bool) : Type 0 where
  pub from_to : FromTo a z path
  pub stepped : Stepped g path
  pub no_twice : NoTwice path
  pub kept : AllByRecursion (λ c. reserved c ≡ true) path
  pub only_cells : (c : ℕ) → reserved c ≡ true → c < cells g

-- a lawful rule: on every machine, for two different cells and a choice that it offers
pub record RouteLawful (R : Route) : Type 0 where
  pub some_choice : 1 ≤ R.choices
  pub few_choices : R.choices ≤ 256
  pub runs : (g : Grid) (a z choice : ℕ) → GridFit g → a ≢ z → a < cells g → z < cells g → choice < R.choices → Runs g a z (R.path g a z choice) (R.reserved g a z choice)
