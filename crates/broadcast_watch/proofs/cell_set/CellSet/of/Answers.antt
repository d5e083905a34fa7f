use Rattle.broadcast_watch.proofs.CellSetLemmas.{set_more}
use Rattle.broadcast_watch.proofs.cell_set.CellSet.of.Goals as goal

pub loop-cell-preserved : goal.loop-cell-preserved
loop-cell-preserved c = set_more _ _ _ _ _ c.loop-cell-test.true c.loop-cell.invariant c.in_ok-insert.ensures.updates.0
