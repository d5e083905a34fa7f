use Rattle.framing.proofs.StreamLemmas.{pieces_join}
use Rattle.framing.proofs.laws.pieces_join.Goals as goal

pub returns : goal.returns
returns c = pieces_join
