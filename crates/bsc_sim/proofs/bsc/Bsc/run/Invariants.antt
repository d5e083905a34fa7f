use Rattle.std.proofs.Common.{◌≡◌, []}
use Rattle.framing.specs.Source.{counted}
use Rattle.bsc_sim.specs.Conversation.{IsWaiting, Turns}
use Rattle.bsc_sim.proofs.bsc.Bsc.run.Given as goal

-- the frames that were read are answered, and no read or write failed
abbrev pub invariant-loop-turn : goal.invariant-loop-turn
invariant-loop-turn g l = record {
  turns : Turns l.choices l.initial.self [] l.self l.framer.rest (g.R.Source.remaining l.initial.reader) (g.R.Source.remaining l.reader) (g.W.Sink.written l.initial.writer) (g.W.Sink.written l.writer);
  waiting : IsWaiting l.framer;
  calls : g.R.Source.calls l.reader ≡ counted (g.R.Source.calls l.initial.reader) l._turn;
  unfailed : g.R.Source.failures l.reader ≡ g.R.Source.failures l.initial.reader;
  fine : g.W.Sink.failures l.writer ≡ g.W.Sink.failures l.initial.writer;
}
