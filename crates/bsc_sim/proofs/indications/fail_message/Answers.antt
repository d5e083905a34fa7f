use Rattle.bsc_sim.proofs.FitLemmas.{fail_fits}
use Rattle.bsc_sim.proofs.indications.fail_message.Goals as goal

pub returns-clause-fits : goal.returns-clause-fits
returns-clause-fits c = fail_fits c.loop-cell.failures c.args.cells.now c.args.cause c.loop-cell.cell-index c.loop-cell.invariant
