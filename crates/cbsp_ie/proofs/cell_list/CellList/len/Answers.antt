use Rattle.std.proofs.Common.{sym}
use Rattle.cbsp_ie.proofs.CellListLemmas.{length-ids_at}
use Rattle.cbsp_ie.proofs.cell_list.CellList.len.Goals as goal

pub returns : goal.returns
returns c = rw (← c.self.view_is) (sym (length-ids_at c.self.inside.form c.self.inside.count c.self.inside.octets.now))
