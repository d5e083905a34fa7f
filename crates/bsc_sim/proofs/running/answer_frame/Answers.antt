use Rattle.std.proofs.lemmas.Result.{IfErr-weaker, on_ok_weaker}
use Rattle.bsc_sim.proofs.ConversationLemmas.{breaks_alive, breaks_reset, replies_alive, replies_reset}
use Rattle.bsc_sim.proofs.running.answer_frame.Goals as goal

-- a RESET
pub returns-in-16-clause-ok : goal.returns-in-16-clause-ok
returns-in-16-clause-ok g c =
    on_ok_weaker c.send_frame.result (λ sent. replies_reset c.args.choices.now c.args.bsc.now c.clear.new.self c.args.frame.now _ _ c.in-16.is c.clear.ensures sent) c.send_frame.ensures.ok

pub returns-in-16-clause-err : goal.returns-in-16-clause-err
returns-in-16-clause-err g c =
    IfErr-weaker c.send_frame.result _ _ (λ end sent. breaks_reset c.args.choices.now c.args.bsc.now c.clear.new.self c.args.frame.now _ _ end c.in-16.is c.clear.ensures sent) c.send_frame.ensures.err

-- a KEEP ALIVE
pub returns-in-22-clause-ok : goal.returns-in-22-clause-ok
returns-in-22-clause-ok g c =
    on_ok_weaker c.send_frame-in-22.result (λ sent. replies_alive c.args.choices.now c.args.bsc.now c.args.frame.now _ _ c.in-22.is sent) c.send_frame-in-22.ensures.ok

pub returns-in-22-clause-err : goal.returns-in-22-clause-err
returns-in-22-clause-err g c =
    IfErr-weaker c.send_frame-in-22.result _ _ (λ end sent. breaks_alive c.args.choices.now c.args.bsc.now c.args.frame.now _ _ end c.in-22.is sent) c.send_frame-in-22.ensures.err
