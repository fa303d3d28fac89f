use Rattle.std.proofs.Common.{rules}
use Rattle.parity.proofs.Words.{words_joined}
use Rattle.parity.proofs.parity_register.ParityRegister.join.Goals as goal

pub returns : goal.returns
returns c = words_joined c.args.self.now.wires c.args.self.now.words c.args.word c.args.wire (search rules)
