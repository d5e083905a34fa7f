use Rattle.std.specs.Io.KnownBytes.{Keeps}
use Rattle.framing.proofs.interrupted.write_again.Given as goal

-- an interrupted write took nothing
abbrev pub invariant-loop-try : goal.invariant-loop-try
invariant-loop-try g l = Keeps (g.W.Write.contents l.initial.writer) (g.W.Write.contents l.writer)
