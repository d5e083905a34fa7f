use Rattle.std.proofs.Common.{Some}
use Rattle.mirror.proofs.IndexLemmas.{entered}
use Rattle.mirror.proofs.cell_index.CellIndex.insert.Goals as goal

pub returns-clause-entered : goal.returns-clause-entered
returns-clause-entered c =
    rw (← c.self.view_is) (entered c.args.key (Some c.args.is_held) c.self.inside.slots.entries c.insert.new.self.entries (rw c.of.ensures.slot at c.in_ok-insert.ensures.updates.0))
