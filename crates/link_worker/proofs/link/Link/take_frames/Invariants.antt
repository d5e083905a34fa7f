use Rattle.std.proofs.Common.{◌≡◌, length}
use Rattle.link_worker.proofs.ReportLemmas.{TakenSoFar}
use Rattle.link_worker.proofs.link.Link.take_frames.Given as goal

-- the frames that are gone from the framer were taken
abbrev pub invariant-loop-frame : goal.invariant-loop-frame
invariant-loop-frame g l = record {
  so_far : TakenSoFar l.self.bsc l.self.generation l.initial.framer.frames l.framer.frames l.initial.desk l.desk;
  rest : l.framer.rest ≡ l.initial.framer.rest;
}

abbrev pub decreases-loop-frame : goal.decreases-loop-frame
decreases-loop-frame g l = length l.framer.frames
