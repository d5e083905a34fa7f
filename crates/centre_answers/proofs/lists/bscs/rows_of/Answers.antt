use Rattle.std.proofs.Common.{refl}
use Rattle.centre_past.specs.Lists.{bsc_row}
use Rattle.centre_answers.proofs.ListLemmas.{mapped_more}
use Rattle.centre_answers.proofs.lists.bscs.rows_of.Goals as goal

pub loop-bsc-preserved : goal.loop-bsc-preserved
loop-bsc-preserved c = λ settings past legal kept.
    mapped_more (bsc_row past) c.args.bscs.now c.loop-bsc.bsc-index c.bsc-item.result c.bsc-item.result c.loop-bsc.rows.items c.add_row.new.rows.items (bsc_row past c.bsc-item.result) c.loop-bsc-test.true c.bsc-item.is
    (c.loop-bsc.invariant settings past legal kept) refl
    (c.in_ok-add_row.ensures settings past legal kept c.flight_to-flight.ensures)
