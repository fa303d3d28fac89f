use Rattle.std.proofs.Common.{None, ap}
use Rattle.std.specs.Option.{option_map}
use Rattle.refusal.specs.declared.Refusal.{Refusal}
use Rattle.placement.proofs.homes.Homes.lowest_shared.Goals as goal

pub returns : goal.returns
returns c = ap (option_map (λ q. Refusal.SharedHome q.0 q.1)) (c.first_pair.ensures.value None)
