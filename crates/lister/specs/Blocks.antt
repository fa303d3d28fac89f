-- The operations of a gate on a layout, and what listing refuses. Assumes nothing.
use Rattle.std.specs.Prelude.{ℕ, List, [], length, is_ok, Option, Result, if◌then◌else◌, nat_lt}
use Rattle.refusal.specs.declared.Refusal.{Refusal}
use Rattle.refusal.specs.Refusals.{refuse_if, or_else, ok_unless}
use Rattle.circuit.specs.declared.action.Action.{Action}
use Rattle.circuit.specs.declared.operation.Operation.{Operation}
use Rattle.route.specs.Routes.{Route}
use Rattle.cnot.specs.Steps.{Step, placed, written_first}
use Rattle.plan.specs.declared.gate.Gate.{Gate}
use Rattle.plan.specs.Plans.{Plan, gate_count, start_or, choice_or}
use Rattle.plan.specs.Verdicts.{first_broken}
use Rattle.plan.specs.Blocks.{steps_of}
use Rattle.plan.specs.Listings.{listing}
use Rattle.spans.specs.declared.layout.Layout.{Layout}
use Rattle.spans.specs.Layouts.{layout_plan}

-- the steps of an action under a choice
abbrev pub action_steps : Layout → Route → ℕ → Action → List Step
action_steps l R choice x = steps_of (layout_plan l []) R choice x

-- the steps of a gate
abbrev pub gate_steps : Layout → Route → Gate → List Step
gate_steps l R g = action_steps l R (choice_or g.timing) g.action

-- the operations of a gate under a number
abbrev pub gate_block : Layout → Route → ℕ → Gate → List Operation
gate_block l R n g = placed n (start_or g.timing) (gate_steps l R g)

-- why a plan is not listed in so many places: what judging refuses it for, or there are fewer places than operations
abbrev pub listing_refusal : Plan → Route → ℕ → Option Refusal
listing_refusal p R places =
    or_else (or_else (refuse_if (nat_lt 256 (gate_count p)) Refusal.ProgramFull) (first_broken p R)) (refuse_if (nat_lt places (length (listing p R))) Refusal.TooFewPlaces)

-- what listing answers: how many operations there are, or why it is refused
abbrev pub listed : Plan → Route → ℕ → Result ℕ Refusal
listed p R places = ok_unless (listing_refusal p R places) (length (listing p R))

-- what places hold after listing, by what they held and what it answered: the listing in the first places and all others as they were, or as before
abbrev pub places_listed : Plan → Route → Result ℕ Refusal → List Operation → List Operation
places_listed p R answer was = if is_ok answer then written_first was (listing p R) else was
