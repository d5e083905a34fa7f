use Rattle.std.proofs.Common.{None}
use Rattle.mirror.proofs.IndexLemmas.{entered}
use Rattle.mirror.proofs.cell_index.CellIndex.remove.Goals as goal

pub returns : goal.returns
returns c =
    rw (← c.self.view_is) (entered c.args.key None c.self.inside.slots.entries c.remove.new.self.entries (rw c.of.ensures.slot at c.remove.ensures.updates.0))
