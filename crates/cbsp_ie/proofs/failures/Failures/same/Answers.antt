use Rattle.common.specs.Equality.{answered}
use Rattle.cbsp_ie.specs.Equality.{failures_decide}
use Rattle.cbsp_ie.proofs.failures.Failures.same.Goals as goal

pub returns : goal.returns
returns c = answered c.eq.ensures (failures_decide c.args.self.now c.args.other.now)
