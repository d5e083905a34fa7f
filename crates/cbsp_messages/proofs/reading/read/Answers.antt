use Rattle.cbsp_messages.proofs.UniqueLemmas.{only_answer}
use Rattle.cbsp_messages.proofs.reading.read.Goals as goal

pub returns-clause-only : goal.returns-clause-only
returns-clause-only c m spells = only_answer c.args.kind c.args.body.now c.message_in.result m c.message_in.ensures.found c.message_in.ensures.fault spells
