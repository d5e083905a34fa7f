use Rattle.cbsp_ie.proofs.ElementLemmas.{one_fault_lem}
use Rattle.cbsp_ie.proofs.laws.one_fault.Goals as goal

pub returns : goal.returns
returns c = one_fault_lem
