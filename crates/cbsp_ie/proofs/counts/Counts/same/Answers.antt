use Rattle.common.specs.Equality.{answered}
use Rattle.cbsp_ie.specs.Equality.{numbers_decide}
use Rattle.cbsp_ie.proofs.counts.Counts.same.Goals as goal

pub returns : goal.returns
returns c = answered c.eq.ensures (numbers_decide c.args.self.now c.args.other.now)
