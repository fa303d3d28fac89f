use Rattle.std.proofs.Common.{rules, None}
use Rattle.std.proofs.lemmas.List.Edits.{map_over_more}
use Rattle.plan.specs.Plans.{retimed}
use Rattle.store.proofs.store.timing.drop_timings.Goals as goal

pub loop-gate-preserved : goal.loop-gate-preserved
loop-gate-preserved c = search (rules, map_over_more (λ g. retimed g None))
