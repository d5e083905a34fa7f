use Rattle.centre_past.proofs.EditCauseLemmas.{untranslated}
use Rattle.centre_past.proofs.ReadLemmas.{plan_kept}
use Rattle.coverage_plan.specs.Refusals.{of_book}
use Rattle.warning_book.specs.Checks.{forget_checks}
use Rattle.centre_answers.proofs.events.check_own.Goals as goal

pub returns-in-RemoveBsc : goal.returns-in-RemoveBsc
returns-in-RemoveBsc c =
    λ settings past legal kept none. rw c.in-RemoveBsc.is (c.check_down.ensures past kept.linked)

pub returns-in-Forget : goal.returns-in-Forget
returns-in-Forget c =
    λ settings past legal kept none.
    rw c.in-Forget.is (c.check_forget.ensures settings past legal (plan_kept past c.args.kept.now kept) kept.linked kept.tables (untranslated of_book (forget_checks c.args.kept.now.plan.book c.in-Forget.number) (rw c.in-Forget.is at none)))
