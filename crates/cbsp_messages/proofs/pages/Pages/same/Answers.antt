use Rattle.common.specs.Equality.{answered}
use Rattle.cbsp_messages.specs.PageText.{pages_decide}
use Rattle.cbsp_messages.proofs.pages.Pages.same.Goals as goal

pub returns : goal.returns
returns c = answered c.eq.ensures (pages_decide c.args.self.now c.args.other.now)
