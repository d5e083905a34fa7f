use Rattle.std.proofs.Common.{refl}
use Rattle.warning_book.specs.Checks.{update_checks}
use Rattle.warning_book.specs.declared.refusal.Refusal.TheVariants.{Memory}
use Rattle.coverage_plan.proofs.CheckLemmas.{refusal_by}
use Rattle.coverage_plan.specs.Refusals.{of_book}
use Rattle.coverage_plan.proofs.plan.Plan.make.Goals as goal

pub returns-in_err-serial-in-Update-clause-refused : goal.returns-in_err-serial-in-Update-clause-refused
returns-in_err-serial-in-Update-clause-refused c =
    rw (c.in-Update.is, ← c.self.view_is) (refusal_by of_book Memory (update_checks c.self.inside.book c.in-Update.number c.in-Update.content) c.from_residual-in_err-serial-in-Update.result c.in_err-serial-in-Update.field-0.0 refl c.from_residual-in_err-serial-in-Update.ensures.1 c.in_err-serial-in-Update.ensures.refused)
