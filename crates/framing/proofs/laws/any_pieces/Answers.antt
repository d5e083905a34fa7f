use Rattle.framing.proofs.RunLemmas.{any_pieces}
use Rattle.framing.proofs.laws.any_pieces.Goals as goal

pub returns : goal.returns
returns c = any_pieces
