use Rattle.std.proofs.Common.{◌≡◌}
use Rattle.framing.specs.Source.{counted}
use Rattle.console.specs.Consoles.{Reads}
use Rattle.console.proofs.replaying.answer_all.Given as goal

-- the console has taken what was read, and no read or write failed
abbrev pub invariant-loop-turn : goal.invariant-loop-turn
invariant-loop-turn g l = record {
  reads : Reads l.initial.console l.console (g.R.Source.remaining l.initial.reader) (g.R.Source.remaining l.reader) (g.W.Sink.written l.initial.writer) (g.W.Sink.written l.writer);
  calls : g.R.Source.calls l.reader ≡ counted (g.R.Source.calls l.initial.reader) l._turn;
  unfailed : g.R.Source.failures l.reader ≡ g.R.Source.failures l.initial.reader;
  fine : g.W.Sink.failures l.writer ≡ g.W.Sink.failures l.initial.writer;
}
