use Rattle.common.specs.Equality.{answered}
use Rattle.centre_events.specs.Equality.{replies_decide}
use Rattle.centre_events.proofs.replies.Replies.same.Goals as goal

pub returns : goal.returns
returns c = answered c.eq.ensures (replies_decide c.args.self.now c.args.other.now)
