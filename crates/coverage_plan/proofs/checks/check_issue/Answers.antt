use Rattle.std.proofs.Common.{◌≡◌, false, rules}
use Rattle.warning_book.specs.Checks.{issue_checks}
use Rattle.coverage_plan.proofs.CheckLemmas.{refused_after}
use Rattle.coverage_plan.specs.Checks.{names_no_area}
use Rattle.coverage_plan.specs.Refusals.{of_book}
use Rattle.coverage_plan.specs.declared.refusal.Refusal.TheVariants.{NoSuchArea}
use Rattle.coverage_plan.proofs.checks.check_issue.Goals as goal

pub returns-in_err-check_issue-clause-refused : goal.returns-in_err-check_issue-clause-refused
returns-in_err-check_issue-clause-refused c =
    let there : names_no_area c.args.areas.now c.args.names.now ≡ false = search rules in
    refused_after (names_no_area c.args.areas.now c.args.names.now) NoSuchArea of_book (issue_checks c.args.book.now c.args.notice.now c.args.names.now) c.from_residual.result c.in_err-check_issue.field-0.0 there c.from_residual.ensures.1 c.in_err-check_issue.ensures.refused
