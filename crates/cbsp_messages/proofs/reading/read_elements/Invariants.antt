use Rattle.std.proofs.Common.{length}
use Rattle.cbsp_messages.specs.Taken.{Takes, parts_taken}
use Rattle.cbsp_messages.proofs.reading.read_elements.Given as goal

-- the places hold the elements before the rest
abbrev pub invariant-loop-rest : goal.invariant-loop-rest
invariant-loop-rest l = Takes l.body l.rest (parts_taken l.elements)

abbrev pub decreases-loop-rest : goal.decreases-loop-rest
decreases-loop-rest l = length l.rest
