use Rattle.grid.specs.Grids.{grid_of}
use Rattle.plan.specs.Plans.{on_grid}
use Rattle.plan.specs.Verdicts.{same_home}
use Rattle.placement.proofs.homes.Homes.lowest_shared.Given as goal

abbrev pub ghost-first_pair : goal.ghost-first_pair
ghost-first_pair a = let g = grid_of a.test.0.now.machine in λ x y. same_home (on_grid g x) (on_grid g y)
