use Rattle.cbsp_messages.proofs.UniqueLemmas.{one_fault_at_most}
use Rattle.cbsp_messages.proofs.laws.one_fault.Goals as goal

pub returns : goal.returns
returns c = one_fault_at_most
