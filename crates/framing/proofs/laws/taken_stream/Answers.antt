use Rattle.framing.proofs.RunLemmas.{taken_stream}
use Rattle.framing.proofs.laws.taken_stream.Goals as goal

pub returns : goal.returns
returns c = taken_stream
