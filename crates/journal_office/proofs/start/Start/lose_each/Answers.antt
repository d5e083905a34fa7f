use Rattle.journal_office.proofs.LosingLemmas.{losses_none, losses_more, losses_all}
use Rattle.journal_office.proofs.start.Start.lose_each.Goals as goal

pub loop-row-init : goal.loop-row-init
loop-row-init g c = losses_none c.args.rows.now c.args.held.now.centre c.args.writing.now

pub loop-row-preserved : goal.loop-row-preserved
loop-row-preserved g c = losses_more c.args.rows.now c.loop-row.row-index c.row-item.result _ _ _ _ _ _ c.loop-row-test.true c.row-item.is c.loop-row.invariant c.in_ok-lose.ensures

pub returns : goal.returns
returns g c = losses_all c.args.rows.now c.loop-row.row-index _ _ _ _ c.loop-row-test.false c.loop-row.invariant
