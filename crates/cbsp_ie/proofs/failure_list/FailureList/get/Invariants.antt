use Rattle.std.proofs.Common.{◌≤◌, drop, length}
use Rattle.cbsp_ie.specs.FailureList.{AreFailures}
use Rattle.cbsp_ie.proofs.failure_list.FailureList.get.Given as goal

-- the octets that are left are read as the entries from the place on
abbrev pub invariant-loop-rest : goal.invariant-loop-rest
invariant-loop-rest l = record { left : AreFailures l.rest (drop l.at l.self); before : l.at ≤ l.index }

abbrev pub decreases-loop-rest : goal.decreases-loop-rest
decreases-loop-rest l = length l.rest
