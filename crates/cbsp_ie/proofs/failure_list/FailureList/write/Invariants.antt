use Rattle.std.proofs.Common.{length}
use Rattle.cbsp_ie.proofs.FailureListLemmas.{Appended}
use Rattle.cbsp_ie.proofs.failure_list.FailureList.write.Given as goal

-- the entries before the octets that are left are appended
abbrev pub invariant-loop-rest : goal.invariant-loop-rest
invariant-loop-rest l = Appended l.self l.initial.out.items l.out.items l.rest

abbrev pub decreases-loop-rest : goal.decreases-loop-rest
decreases-loop-rest l = length l.rest
