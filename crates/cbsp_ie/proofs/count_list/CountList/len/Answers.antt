use Rattle.std.proofs.Common.{sym}
use Rattle.cbsp_ie.proofs.CountListLemmas.{length-counts_at}
use Rattle.cbsp_ie.proofs.count_list.CountList.len.Goals as goal

pub returns : goal.returns
returns c = rw (← c.self.view_is) (sym (length-counts_at c.self.inside.form c.self.inside.count c.self.inside.octets.now))
