use Rattle.command.proofs.Letters.{no_single}
use Rattle.command.proofs.read.read_single.Goals as goal

pub returns-in_err-one : goal.returns-in_err-one
returns-in_err-one c = rw c.from_residual.ensures (no_single c.args.letter c.args.rest.now c.requires c.in_err-one.ensures)
