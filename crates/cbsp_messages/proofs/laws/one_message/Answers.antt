use Rattle.cbsp_messages.proofs.UniqueLemmas.{one_message_at_most}
use Rattle.cbsp_messages.proofs.laws.one_message.Goals as goal

pub returns : goal.returns
returns c = one_message_at_most
