use Rattle.std.proofs.Common.{ap, ◌∙◌}
use Rattle.std.specs.Ordering.{is_lt}
use Rattle.orders.proofs.Compared.{less_is}
use Rattle.orders.proofs.is_less.Goals as goal

pub returns : goal.returns
returns g c = c.is_lt.ensures ∙ ap is_lt (g.met.T.Ranked.answers c.args.x c.args.y c.cmp.result c.cmp.ensures) ∙ less_is g.T.Ranked.before c.args.x c.args.y
