use Rattle.warning_book.specs.Checks.{update_checks}
use Rattle.coverage_plan.proofs.CheckLemmas.{refused_by}
use Rattle.coverage_plan.specs.Refusals.{of_book}
use Rattle.coverage_plan.proofs.plan.Plan.check.Goals as goal

pub returns-in_err-check_update-in-Update-clause-refused : goal.returns-in_err-check_update-in-Update-clause-refused
returns-in_err-check_update-in-Update-clause-refused c =
    rw (c.in-Update.is, ← c.self.view_is) (refused_by of_book (update_checks c.self.inside.book c.in-Update.number c.in-Update.content) c.from_residual-in_err-check_update-in-Update.result c.in_err-check_update-in-Update.field-0.0 c.from_residual-in_err-check_update-in-Update.ensures.1 c.in_err-check_update-in-Update.ensures.refused)
