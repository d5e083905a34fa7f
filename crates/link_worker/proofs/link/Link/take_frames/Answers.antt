use Rattle.std.proofs.Common.{◌∙◌}
use Rattle.link_worker.proofs.ReportLemmas.{TakenSoFar-more, TakenSoFar-stops}
use Rattle.link_worker.proofs.link.Link.take_frames.Goals as goal

pub returns-in-Err-clause-ended : goal.returns-in-Err-clause-ended
returns-in-Err-clause-ended g c = TakenSoFar-stops _ _ _ _ _ c.in-Some.frame _ _ _ _ c.loop-frame.invariant.so_far c.in-Some.ensures.frames c.in-Err.ensures.ended

pub loop-frame-preserved : goal.loop-frame-preserved
loop-frame-preserved g c = record {
  so_far = TakenSoFar-more _ _ _ _ _ c.in-Some.frame _ _ _ c.loop-frame.invariant.so_far c.in-Some.ensures.frames c.in_default-take_frame.ensures.taken;
  rest = c.in-Some.ensures.rest ∙ c.loop-frame.invariant.rest;
}
