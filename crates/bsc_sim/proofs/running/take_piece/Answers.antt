use Rattle.std.proofs.lemmas.Result.{IfErr-weaker, err_from_is_err_and}
use Rattle.bsc_sim.proofs.ConversationLemmas.{stops_at_frame, stops_at_long, stops_before_long, stops_starved}
use Rattle.bsc_sim.proofs.running.take_piece.Goals as goal

-- an answer ends the conversation before the frame that is too long
pub returns-in_err-answer_ready-in-Err-TooLong-clause-err : goal.returns-in_err-answer_ready-in-Err-TooLong-clause-err
returns-in_err-answer_ready-in-Err-TooLong-clause-err g c =
    let p = err_from_is_err_and c.from_residual.result c.from_residual.ensures.1 in
    let refused = rw c.in-Err-TooLong.field-0-is at c.in-Err-TooLong.ensures.refused in
    rw (p.1, p.2) (λ left. stops_before_long _ _ _ _ _ _ _ left _ _ _ c.requires refused c.in_err-answer_ready-in-Err-TooLong.ensures.err)

pub returns-in-Ok-clause-err : goal.returns-in-Ok-clause-err
returns-in-Ok-clause-err g c =
    IfErr-weaker c.answer_ready.result _ _ (λ end h left. stops_at_frame _ _ _ _ _ _ left _ _ end c.requires c.in-Ok.ensures.taken h) c.answer_ready.ensures.err

pub returns-in_ok-answer_ready-in-Err-TooLong-clause-err : goal.returns-in_ok-answer_ready-in-Err-TooLong-clause-err
returns-in_ok-answer_ready-in-Err-TooLong-clause-err g c =
    λ left. stops_at_long _ _ _ _ _ _ _ left _ _ c.requires (rw c.in-Err-TooLong.field-0-is at c.in-Err-TooLong.ensures.refused) c.in_ok-answer_ready-in-Err-TooLong.ensures.ok

pub returns-in-Err-Memory-clause-err : goal.returns-in-Err-Memory-clause-err
returns-in-Err-Memory-clause-err g c = λ left. stops_starved _ _ c.args.framer.now _ left _ c.requires
