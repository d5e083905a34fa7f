use Rattle.cbsp_ie.proofs.ElementLemmas.{no_fault_lem}
use Rattle.cbsp_ie.proofs.laws.no_fault.Goals as goal

pub returns : goal.returns
returns c = no_fault_lem
