use Rattle.std.proofs.Common.{true, [], ◌∷◌}
use Rattle.std.proofs.lemmas.Result.{err_from_is_err_and}
use Rattle.cbsp_messages.specs.Written.{frame_of}
use Rattle.bsc_sim.specs.Indications.{restart_message}
use Rattle.bsc_sim.proofs.ConversationLemmas.{sends_after, sends_before, sends_both, sent_none}
use Rattle.bsc_sim.proofs.running.open.Goals as goal

pub returns-in_err-send-clause-err : goal.returns-in_err-send-clause-err
returns-in_err-send-clause-err g c =
    let p = err_from_is_err_and c.from_residual-in_err-send.result c.from_residual-in_err-send.ensures.1 in
    rw (p.1, p.2) (sends_before (frame_of (restart_message 0 true) ∷ []) (frame_of (restart_message 1 true) ∷ []) _ _ _ (rw c.in_ok-first.ensures.message at c.in_err-send.ensures.err))

pub returns-in_err-second-clause-err : goal.returns-in_err-second-clause-err
returns-in_err-second-clause-err g c =
    let p = err_from_is_err_and c.from_residual-in_err-second.result c.from_residual-in_err-second.ensures.1 in
    rw (p.1, p.2)
    (sends_after (frame_of (restart_message 0 true) ∷ []) (frame_of (restart_message 1 true) ∷ []) _ _ _ _ (rw c.in_ok-first.ensures.message at c.in_ok-send.ensures.ok) (sent_none (frame_of (restart_message 1 true) ∷ []) _))

pub returns-in_err-send-2-clause-err : goal.returns-in_err-send-2-clause-err
returns-in_err-send-2-clause-err g c =
    let p = err_from_is_err_and c.from_residual-in_err-send-2.result c.from_residual-in_err-send-2.ensures.1 in
    rw (p.1, p.2)
    (sends_after (frame_of (restart_message 0 true) ∷ []) (frame_of (restart_message 1 true) ∷ []) _ _ _ _ (rw c.in_ok-first.ensures.message at c.in_ok-send.ensures.ok)
    (rw c.in_ok-second.ensures.message at c.in_err-send-2.ensures.err))

pub returns-clause-ok : goal.returns-clause-ok
returns-clause-ok g c =
    sends_both (frame_of (restart_message 0 true)) (frame_of (restart_message 1 true)) _ _ _ (rw c.in_ok-first.ensures.message at c.in_ok-send.ensures.ok) (rw c.in_ok-second.ensures.message at c.in_ok-send-2.ensures.ok)
