-- What is lent of a job is its plan. Assumes nothing.
use Rattle.std.proofs.Common.{◌≡◌, vec_items}
use Rattle.plan.specs.Plans.{plan_of}
use Rattle.spans.specs.declared.layout.Layout.{Layout}
use Rattle.spans.specs.Layouts.{layout_plan}
use Rattle.store.specs.declared.store.Store.{Store}
use Rattle.store.specs.Stores.{store_plan}

-- a layout of the store's table and homes
pub layout_held : (s : Store) (l : Layout) → l.table.now ≡ s.table → l.homes.now ≡ vec_items s.homes → layout_plan l (vec_items s.gates) ≡ store_plan s
layout_held s l e f i = plan_of (e i) (f i) (vec_items s.gates)
