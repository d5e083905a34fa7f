use Rattle.std.proofs.Common.{◌∙◌, ap, sym}
use Rattle.std.specs.Option.{option_copied}
use Rattle.warning_book.proofs.QuestionLemmas.{content_found, content_passed}
use Rattle.warning_book.proofs.questions.content_of.Goals as goal

pub returns-in-Some : goal.returns-in-Some
returns-in-Some c =
    content_found c.args.message_id c.args.serial c.args.warnings.now c.loop-warning.warning-index c.warning-item.result c.in-Some.content.now c.loop-warning.invariant c.loop-warning-test.true c.warning-item.is (sym (ap option_copied c.in-Some.is) ∙ c.content_in.ensures)

pub loop-warning-preserved : goal.loop-warning-preserved
loop-warning-preserved c =
    content_passed c.args.message_id c.args.serial c.args.warnings.now c.loop-warning.warning-index c.warning-item.result c.loop-warning.invariant c.loop-warning-test.true c.warning-item.is (sym (ap option_copied c.in_default.is) ∙ c.content_in.ensures)
