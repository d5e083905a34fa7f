use Rattle.cbsp_messages.proofs.UniqueLemmas.{no_fault_if_spelled}
use Rattle.cbsp_messages.proofs.laws.no_fault.Goals as goal

pub returns : goal.returns
returns c = no_fault_if_spelled
