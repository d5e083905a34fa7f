use Rattle.cbsp_ie.specs.FailureList.{entries_after}
use Rattle.cbsp_ie.proofs.FailureListLemmas.{length-AreFailures}
use Rattle.cbsp_ie.proofs.failure_list.FailureList.octets_len.Goals as goal

pub returns : goal.returns
returns c = rw (← c.self.view_is) (length-AreFailures c.self.inside.octets.now (entries_after 0 c.self.inside.octets.now) c.self.invariant.1)
