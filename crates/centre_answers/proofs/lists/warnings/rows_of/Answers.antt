use Rattle.centre_past.specs.Lists.{warning_row}
use Rattle.centre_answers.proofs.ListLemmas.{mapped_more}
use Rattle.centre_answers.proofs.TableLemmas.{in_book}
use Rattle.centre_answers.proofs.lists.warnings.rows_of.Goals as goal

pub loop-warning-preserved : goal.loop-warning-preserved
loop-warning-preserved c = λ past tells same.
    mapped_more (warning_row past) c.args.warnings.now c.loop-warning.warning-index c.warning-item.result c.warning-item.result c.loop-warning.rows.items c.push.new.self.items c.in_ok-warning_row.field-0 c.loop-warning-test.true c.warning-item.is
    (c.loop-warning.invariant past tells same)
    (c.in_ok-warning_row.ensures past tells (in_book past c.args.tables.now tells c.args.warnings.now same c.loop-warning.warning-index c.warning-item.result c.loop-warning-test.true c.warning-item.is))
    c.in_ok-push.ensures.items
