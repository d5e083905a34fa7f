use Rattle.std.proofs.Common.{◌≡◌, length}
use Rattle.framing.proofs.SinkLemmas.{WrittenSoFar}
use Rattle.framing.proofs.sink.write_all.Given as goal

-- what is gone from the rest was written, and no write was refused
abbrev pub invariant-loop-rest : goal.invariant-loop-rest
invariant-loop-rest g l = record {
  so_far : WrittenSoFar (g.W.Sink.written l.initial.writer) (g.W.Sink.written l.writer) l.octets l.rest;
  fine : g.W.Sink.failures l.writer ≡ g.W.Sink.failures l.initial.writer;
}

abbrev pub decreases-loop-rest : goal.decreases-loop-rest
decreases-loop-rest g l = length l.rest
