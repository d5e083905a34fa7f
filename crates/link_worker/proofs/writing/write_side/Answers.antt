use Rattle.link_worker.proofs.OrderLemmas.{Ends-more}
use Rattle.link_worker.proofs.writing.write_side.Goals as goal

pub returns-in-Err-clause-written : goal.returns-in-Err-clause-written
returns-in-Err-clause-written g c = Ends-more _ _ _ _ _ _ _ _ _ c.loop.invariant.writes c.in-Err.ensures.ended
