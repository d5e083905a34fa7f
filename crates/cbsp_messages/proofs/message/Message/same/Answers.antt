use Rattle.common.specs.Equality.{answered}
use Rattle.cbsp_messages.proofs.EqualityLemmas.{message_decides}
use Rattle.cbsp_messages.proofs.message.Message.same.Goals as goal

pub returns : goal.returns
returns c = answered c.eq.ensures (message_decides c.args.self.now c.args.other.now)
