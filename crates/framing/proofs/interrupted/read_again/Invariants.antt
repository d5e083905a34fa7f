use Rattle.std.specs.Io.KnownBytes.{Keeps}
use Rattle.framing.proofs.interrupted.read_again.Given as goal

-- an interrupted read gave nothing
abbrev pub invariant-loop-try : goal.invariant-loop-try
invariant-loop-try g l = Keeps (g.R.Read.remaining l.initial.reader) (g.R.Read.remaining l.reader)
