use Rattle.std.proofs.Common.{◌∙◌}
use Rattle.std.proofs.lemmas.Result.{err_from_is_err_and}
use Rattle.bsc_sim.proofs.ConversationLemmas.{so_far_breaks, so_far_more}
use Rattle.bsc_sim.proofs.running.answer_ready.Goals as goal

pub returns-in_err-answer_frame-clause-err : goal.returns-in_err-answer_frame-clause-err
returns-in_err-answer_frame-clause-err g c =
    let p = err_from_is_err_and c.from_residual.result c.from_residual.ensures.1 in
    rw (p.1, p.2) (so_far_breaks _ _ _ _ _ _ _ _ _ _ _ _ c.in-Some.ensures.frames c.loop-frame.invariant.answered c.in_err-answer_frame.ensures.err)

pub loop-frame-preserved : goal.loop-frame-preserved
loop-frame-preserved g c = record {
  answered = so_far_more _ _ _ _ _ _ _ _ _ _ _ c.in-Some.ensures.frames c.loop-frame.invariant.answered c.in_ok-answer_frame.ensures.ok;
  rest = c.in-Some.ensures.rest ∙ c.loop-frame.invariant.rest;
  fine = c.in_ok-answer_frame.ensures.failed ∙ c.loop-frame.invariant.fine;
}
