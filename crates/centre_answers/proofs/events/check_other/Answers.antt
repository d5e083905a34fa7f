use Rattle.centre_events.specs.Refusals.{of_plan}
use Rattle.centre_events.specs.Verdict.{edit_answered}
use Rattle.centre_past.proofs.EditCauseLemmas.{plan_refuses}
use Rattle.centre_past.proofs.GivenLemmas.{err_checked}
use Rattle.centre_past.proofs.ReadLemmas.{plan_kept}
use Rattle.centre_answers.proofs.EditLemmas.{own_checked}
use Rattle.centre_answers.proofs.events.check_other.Goals as goal

pub returns-in_err-check : goal.returns-in_err-check
returns-in_err-check c =
    λ settings past legal kept. err_checked (edit_answered past c.args.edit.now) c.from_residual.result (of_plan c.in_err-check.field-0.0) c.from_residual.ensures.1
    (plan_refuses past c.args.kept.now.plan c.tell_soundness.ensures (plan_kept past c.args.kept.now kept) c.args.edit.now c.requires.other c.in_err-check.field-0.0 c.in_err-check.ensures.refused)

pub returns : goal.returns
returns c =
    λ settings past legal kept.
    own_checked past c.args.kept.now.plan c.tell_soundness.ensures (plan_kept past c.args.kept.now kept) c.args.edit.now c.requires.other c.check_own.result c.in_ok-check.ensures.accepted (c.check_own.ensures settings past legal kept c.in_ok-check.ensures.accepted)
