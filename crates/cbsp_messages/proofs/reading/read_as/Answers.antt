use Rattle.cbsp_messages.proofs.UniqueLemmas.{only_answer_as}
use Rattle.cbsp_messages.proofs.reading.read_as.Goals as goal

pub returns-clause-only : goal.returns-clause-only
returns-clause-only c m spells = only_answer_as c.args.kind c.args.body.now c.message_as.result m c.message_as.ensures.found c.message_as.ensures.fault spells
