use Rattle.centre_events.specs.Refusals.{of_plan}
use Rattle.centre_events.specs.Verdict.{edit_answered}
use Rattle.centre_past.proofs.EditCauseLemmas.{plan_starves}
use Rattle.centre_past.proofs.GivenLemmas.{err_gives}
use Rattle.centre_answers.proofs.EditLemmas.{made_is, made_plain}
use Rattle.centre_answers.proofs.events.make_edit.Goals as goal

pub returns-in_err-made-clause-verdict : goal.returns-in_err-made-clause-verdict
returns-in_err-made-clause-verdict c =
    λ past tied ok. err_gives (edit_answered past c.args.edit.now) c.from_residual.result (of_plan c.in_err-made.field-0.0) c.from_residual.ensures.1
    (plan_starves past c.args.plan.now c.tell_soundness.ensures tied c.args.edit.now c.in_err-made.field-0.0 ok c.in_err-made.ensures.refused)

pub returns-clause-verdict : goal.returns-clause-verdict
returns-clause-verdict c =
    λ past tied ok. made_is past c.args.plan.now c.args.edit.now c.in_ok-made.made c.answer_of.result tied.booked ok c.in_ok-made.ensures.made c.answer_of.ensures

pub returns-clause-plain : goal.returns-clause-plain
returns-clause-plain c = made_plain c.in_ok-made.made c.answer_of.result c.answer_of.ensures
