use Rattle.cbsp_ie.proofs.WrittenLemmas.{written_is_read_lem}
use Rattle.cbsp_ie.proofs.laws.written_is_read.Goals as goal

pub returns : goal.returns
returns c = written_is_read_lem
