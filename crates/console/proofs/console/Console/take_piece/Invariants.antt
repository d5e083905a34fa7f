use Rattle.std.proofs.Common.{◌≡◌, List, ℕ, Option, length}
use Rattle.console.specs.Consoles.{ConsoleState, Goes, Stops}
use Rattle.console_text.specs.declared.fault.ReplayFault.{ReplayFault}
use Rattle.console.proofs.console.Console.take_piece.Given as goal

-- where what is left goes or stops, the whole piece does, and no write failed
abbrev pub invariant-loop-run : goal.invariant-loop-run
invariant-loop-run g l = record {
  goes : (new : ConsoleState) (after : Option (List ℕ)) → Goes l.self l.rest new (g.W.Sink.written l.writer) after → Goes l.initial.self l.piece new (g.W.Sink.written l.initial.writer) after;
  stops : (after : Option (List ℕ)) (fault : ReplayFault) → Stops l.self l.rest (g.W.Sink.written l.writer) after fault → Stops l.initial.self l.piece (g.W.Sink.written l.initial.writer) after fault;
  fine : g.W.Sink.failures l.writer ≡ g.W.Sink.failures l.initial.writer;
}

abbrev pub decreases-loop-run : goal.decreases-loop-run
decreases-loop-run g l = length l.rest
