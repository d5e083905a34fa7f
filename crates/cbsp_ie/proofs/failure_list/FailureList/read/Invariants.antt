use Rattle.std.proofs.Common.{length}
use Rattle.cbsp_ie.proofs.FailureListLemmas.{SoFar}
use Rattle.cbsp_ie.proofs.failure_list.FailureList.read.Given as goal

-- whole entries stand before the octets that are left
abbrev pub invariant-loop-rest : goal.invariant-loop-rest
invariant-loop-rest l = SoFar l.listed l.rest l.count

abbrev pub decreases-loop-rest : goal.decreases-loop-rest
decreases-loop-rest l = length l.rest
