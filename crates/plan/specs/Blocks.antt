-- A gate's operations, and the direct run. Assumes nothing.
use Rattle.std.specs.Prelude.{ℕ, List, [], ◌∷◌, map}
use Rattle.std.specs.List.{range_with_len, flat_map}
use Rattle.circuit.specs.declared.action.Action.{Action}
use Rattle.circuit.specs.declared.operation.Operation.{Operation}
use Rattle.circuit.specs.Actions.{carry}
use Rattle.route.specs.Routes.{Route}
use Rattle.cnot.specs.Links.{links}
use Rattle.cnot.specs.Steps.{Step, routed, placed}
use Rattle.plan.specs.Plans.{Plan, gate_count, action_at, start_at, choice_at, home, values_of, time_between}
use Rattle.plan.specs.Durations.{single_time, path_of}

module _ (p : Plan) (R : Route) where
  -- the steps of an action under a choice: one at the home, or those of a CNOT along its path
  abbrev pub steps_of : ℕ → Action → List Step
  steps_of c (Action.One k l) = record { length = single_time k (values_of p (home p l)); action = Action.One k (home p l) } ∷ []
  steps_of c (Action.Cnot l m) = routed (links (time_between p) (path_of p R c l m))

  -- the steps of the gate g
  abbrev pub steps : ℕ → List Step
  steps g = steps_of (choice_at p g) (action_at p g)

  -- the operations of the gate g
  abbrev pub block : ℕ → List Operation
  block g = placed g (start_at p g) (steps g)

  -- every gate's operations, gate after gate
  abbrev pub blocks : List Operation
  blocks = flat_map block (range_with_len 0 (gate_count p))

-- the gate g as one operation at its homes; its start and length are not asked for
abbrev pub direct_step : Plan → ℕ → Operation
direct_step p g = record { start = 0; length = 0; action = carry (home p) (action_at p g); gate = g }

-- the program's gates at the home cells, in program order
abbrev pub direct : Plan → List Operation
direct p = map (direct_step p) (range_with_len 0 (gate_count p))
