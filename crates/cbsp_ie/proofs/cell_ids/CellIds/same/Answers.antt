use Rattle.common.specs.Equality.{answered}
use Rattle.cbsp_ie.specs.Equality.{identifications_decide}
use Rattle.cbsp_ie.proofs.cell_ids.CellIds.same.Goals as goal

pub returns : goal.returns
returns c = answered c.eq.ensures (identifications_decide c.args.self.now c.args.other.now)
