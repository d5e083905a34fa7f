use Rattle.std.proofs.Common.{length}
use Rattle.cbsp_ie.proofs.FailureListLemmas.{Copied}
use Rattle.cbsp_ie.proofs.failure_list.FailureList.to_entries.Given as goal

-- the entries before the octets that are left are copied
abbrev pub invariant-loop-rest : goal.invariant-loop-rest
invariant-loop-rest l = Copied l.self l.failures l.rest

abbrev pub decreases-loop-rest : goal.decreases-loop-rest
decreases-loop-rest l = length l.rest
