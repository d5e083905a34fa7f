use Rattle.bsc_sim.proofs.OwnCellLemmas.{own_more}
use Rattle.bsc_sim.proofs.own_cells.OwnCells.of.Goals as goal

pub loop-cell-preserved : goal.loop-cell-preserved
loop-cell-preserved c = own_more _ _ _ _ _ c.loop-cell-test.true c.loop-cell.invariant c.in_ok-insert.ensures.updates.0
