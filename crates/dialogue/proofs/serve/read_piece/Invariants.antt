use Rattle.std.specs.Io.KnownBytes.{Keeps}
use Rattle.dialogue.proofs.serve.read_piece.Given as goal

abbrev pub invariant-loop : goal.invariant-loop
invariant-loop g l = Keeps (g.R.Read.remaining l.initial.input) (g.R.Read.remaining l.input)
