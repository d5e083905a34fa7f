use Rattle.std.proofs.lemmas.Result.{err_from_is_err_and}
use Rattle.bsc_sim.proofs.ConversationLemmas.{answers_message, breaks_reading, breaks_sending, breaks_starved, replies_one}
use Rattle.bsc_sim.proofs.running.answer_message.Goals as goal

pub returns-in_err-message-clause-err : goal.returns-in_err-message-clause-err
returns-in_err-message-clause-err g c =
    let p = err_from_is_err_and c.from_residual.result c.from_residual.ensures.1 in
    rw (p.1, p.2) (breaks_reading c.args.choices.now c.args.bsc.now c.args.frame.now _ c.in_err-message.field-0.0 c.requires (rw c.as_slice.ensures at c.in_err-message.ensures.fault))

pub returns-in_err-reply-clause-err : goal.returns-in_err-reply-clause-err
returns-in_err-reply-clause-err g c =
    let p = err_from_is_err_and c.from_residual-in_err-reply.result c.from_residual-in_err-reply.ensures.1 in
    rw (p.1, p.2, c.in_err-reply.ensures.unchanged) (breaks_starved c.args.choices.now c.args.bsc.now c.args.frame.now _)

pub returns-in_err-send-clause-err : goal.returns-in_err-send-clause-err
returns-in_err-send-clause-err g c =
    let p = err_from_is_err_and c.from_residual-in_err-send.result c.from_residual-in_err-send.ensures.1 in
    rw (p.1, p.2)
    (breaks_sending c.args.choices.now c.args.bsc.now _ c.args.frame.now _ _ _ _
    (answers_message c.args.choices.now c.args.bsc.now _ c.args.frame.now c.in_ok-message.message _ c.requires (rw c.as_slice.ensures at c.in_ok-message.ensures.found) c.in_ok-reply.ensures.reply
    c.in_ok-reply.ensures.table)
    c.in_err-send.ensures.err)

pub returns-clause-ok : goal.returns-clause-ok
returns-clause-ok g c =
    replies_one c.args.choices.now c.args.bsc.now _ c.args.frame.now _ _ _
    (answers_message c.args.choices.now c.args.bsc.now _ c.args.frame.now c.in_ok-message.message _ c.requires (rw c.as_slice.ensures at c.in_ok-message.ensures.found) c.in_ok-reply.ensures.reply
    c.in_ok-reply.ensures.table)
    c.in_ok-send.ensures.ok
