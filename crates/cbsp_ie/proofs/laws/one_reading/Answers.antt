use Rattle.cbsp_ie.proofs.ElementLemmas.{one_reading_lem}
use Rattle.cbsp_ie.proofs.laws.one_reading.Goals as goal

pub returns : goal.returns
returns c = one_reading_lem
