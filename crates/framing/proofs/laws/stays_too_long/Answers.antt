use Rattle.framing.proofs.RunLemmas.{stays_too_long}
use Rattle.framing.proofs.laws.stays_too_long.Goals as goal

pub returns : goal.returns
returns c = stays_too_long
