-- The plan that a layout is part of. Assumes nothing.
use Rattle.std.specs.Prelude.{List}
use Rattle.plan.specs.declared.gate.Gate.{Gate}
use Rattle.plan.specs.Plans.{Plan, plan_of}
use Rattle.spans.specs.declared.layout.Layout.{Layout}

-- the plan of a layout and gates
abbrev pub layout_plan : Layout → List Gate → Plan
layout_plan l gs = plan_of l.table.now l.homes.now gs
