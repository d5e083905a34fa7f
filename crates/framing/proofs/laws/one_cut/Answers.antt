use Rattle.framing.proofs.StreamLemmas.{one_cut}
use Rattle.framing.proofs.laws.one_cut.Goals as goal

pub returns : goal.returns
returns c = one_cut
