use Rattle.std.proofs.Common.{◌≡◌, Some, None, sym, ap, subst, rules}
use Rattle.common.specs.Checks.{first_refusal}
use Rattle.warning_book.specs.Book.{warning_of}
use Rattle.centre_events.specs.Kept.{IsRegisterOf}
use Rattle.centre_events.specs.Verdict.{idle_checks}
use Rattle.centre_past.specs.EditCauses.{own_causes}
use Rattle.centre_past.proofs.WarningLemmas.{forget_inactive, found_itself}
use Rattle.coverage_plan.specs.declared.edit.Edit.TheVariants.{Forget}
use Rattle.centre_answers.proofs.EditLemmas.{forget_found, forget_missing}
use Rattle.centre_answers.proofs.ReuseLemmas.{first_same}
use Rattle.centre_answers.proofs.events.forgetting.check_forget.Goals as goal

pub returns-in_default : goal.returns-in_default
returns-in_default c =
    let missing : warning_of c.args.plan.now.book c.args.number ≡ None = search rules in
    λ settings past legal tied linked tables none. forget_missing past c.args.plan.now.book c.args.number tied.booked missing

pub returns : goal.returns
returns c =
    let found : warning_of c.args.plan.now.book c.args.number ≡ Some c.in-Some.warning.now = search rules in
    λ settings past legal tied linked tables none.
    first_same (idle_checks past c.in-Some.warning.now) (own_causes past (Forget c.args.number)) c.check_idle.result
    (ap first_refusal (sym (forget_found past c.args.plan.now.book c.args.number c.in-Some.warning.now tied.booked c.tell_soundness.ensures.warnings_ascend found)))
    (c.check_idle.ensures settings past legal (subst (IsRegisterOf past) (sym c.register.ensures) tied.registered) linked tables (found_itself past c.args.plan.now.book c.args.number c.in-Some.warning.now tied.booked found) (forget_inactive c.args.plan.now.book c.args.number c.in-Some.warning.now found none))
