use Rattle.std.proofs.Common.{◌≡◌, length}
use Rattle.bsc_sim.proofs.ConversationLemmas.{AnsweredSoFar}
use Rattle.bsc_sim.proofs.running.answer_ready.Given as goal

-- the frames so far are answered, and no write failed
abbrev pub invariant-loop-frame : goal.invariant-loop-frame
invariant-loop-frame g l = record {
  answered : AnsweredSoFar l.choices l.initial.bsc l.bsc l.initial.framer.frames l.framer.frames (g.W.Sink.written l.initial.writer) (g.W.Sink.written l.writer);
  rest : l.framer.rest ≡ l.initial.framer.rest;
  fine : g.W.Sink.failures l.writer ≡ g.W.Sink.failures l.initial.writer;
}

abbrev pub decreases-loop-frame : goal.decreases-loop-frame
decreases-loop-frame g l = length l.framer.frames
