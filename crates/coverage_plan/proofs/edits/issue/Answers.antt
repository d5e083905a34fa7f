use Rattle.std.proofs.Common.{◌≡◌, false, refl}
use Rattle.common.specs.CheckLaws.{none_holds}
use Rattle.warning_book.specs.Checks.{issue_checks}
use Rattle.warning_book.specs.declared.refusal.Refusal.TheVariants as book
use Rattle.coverage_plan.proofs.CheckLemmas.{refusal_after}
use Rattle.coverage_plan.specs.Checks.{names_no_area}
use Rattle.coverage_plan.specs.Checks as plan
use Rattle.coverage_plan.specs.Refusals.{of_book}
use Rattle.coverage_plan.specs.declared.refusal.Refusal.TheVariants.{NoSuchArea}
use Rattle.coverage_plan.proofs.edits.issue.Goals as goal

pub returns-in_err-number-clause-refused : goal.returns-in_err-number-clause-refused
returns-in_err-number-clause-refused c =
    let l = c.args.areas.now in
    let names = c.args.names.now in
    let there : names_no_area l names ≡ false = (none_holds (plan.issue_checks l c.args.book.now c.args.notice.now names) c.in_ok-check_issue.ensures.accepted).0 in
    refusal_after (names_no_area l names) NoSuchArea of_book book.Memory (issue_checks c.args.book.now c.args.notice.now names) c.from_residual-in_err-number.result c.in_err-number.field-0.0 there refl c.from_residual-in_err-number.ensures.1 c.in_err-number.ensures.refused
