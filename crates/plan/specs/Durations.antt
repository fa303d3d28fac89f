-- How long a gate lasts and what it reserves. Assumes nothing.
use Rattle.std.specs.Prelude.{ℕ, ◌+◌, Bool, List, [], Some, None, Option}
use Rattle.circuit.specs.declared.action.Single.{Single}
use Rattle.circuit.specs.declared.action.Action.{Action}
use Rattle.grid.specs.CellSets.{no_cells, only_cell}
use Rattle.calibration.specs.declared.values.Calibration.{Calibration}
use Rattle.route.specs.Ends.{Ends, apart_cells}
use Rattle.route.specs.Routes.{Route, path_between, reserved_between}
use Rattle.cnot.specs.Links.{links, time_over}
use Rattle.plan.specs.Plans.{Plan, action_at, start_at, choice_at, home, values_of, time_between}

-- how long an action on one wire lasts at a cell
abbrev pub single_time : Single → Calibration → ℕ
single_time Single.H v = v.single
single_time (Single.Plain p) v = v.single
single_time Single.Read v = v.read

-- the path between two ends under a choice; none where there are no such ends
abbrev pub path_over : Route → ℕ → Option Ends → List ℕ
path_over R c None = []
path_over R c (Some e) = path_between R e c

-- the cells reserved there
abbrev pub reserved_over : Route → ℕ → Option Ends → ℕ → Bool
reserved_over R c None = no_cells
reserved_over R c (Some e) = reserved_between R e c

module _ (p : Plan) (R : Route) where
  -- the path between the homes of two labels under a choice
  abbrev pub path_of : ℕ → ℕ → ℕ → List ℕ
  path_of c l m = path_over R c (apart_cells p.machine (home p l) (home p m))

  -- how long an action lasts under a choice
  abbrev pub duration_of : ℕ → Action → ℕ
  duration_of c (Action.One k l) = single_time k (values_of p (home p l))
  duration_of c (Action.Cnot l m) = time_over (links (time_between p) (path_of c l m))

  -- what an action reserves under a choice
  abbrev pub reserved_of : ℕ → Action → ℕ → Bool
  reserved_of c (Action.One k l) = only_cell (home p l)
  reserved_of c (Action.Cnot l m) = reserved_over R c (apart_cells p.machine (home p l) (home p m))

  -- how long the gate g lasts
  abbrev pub duration : ℕ → ℕ
  duration g = duration_of (choice_at p g) (action_at p g)

  -- when the gate g ends
  abbrev pub end_at : ℕ → ℕ
  end_at g = start_at p g + duration g

  -- the gate g reserves the cell x
  abbrev pub reserved : ℕ → ℕ → Bool
  reserved g = reserved_of (choice_at p g) (action_at p g)
