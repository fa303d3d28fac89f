use Rattle.std.proofs.Common.{ap}
use Rattle.std.specs.Option.{option_map}
use Rattle.refusal.specs.declared.Refusal.{Refusal}
use Rattle.refusal.specs.Refusals.{ok_unless}
use Rattle.schedule.specs.Schedules.{no_span}
use Rattle.schedule.proofs.early.check_early.Goals as goal

pub returns-in-Some : goal.returns-in-Some
returns-in-Some c = ap (λ o. ok_unless (option_map (λ q. Refusal.TooEarly q.0 q.1) o) tt) (c.in-Some.ensures.value no_span)

pub returns-in-None : goal.returns-in-None
returns-in-None c = ap (λ o. ok_unless (option_map (λ q. Refusal.TooEarly q.0 q.1) o) tt) (c.in-None.ensures.value no_span)
