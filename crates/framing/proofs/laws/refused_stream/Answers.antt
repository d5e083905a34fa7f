use Rattle.framing.proofs.RunLemmas.{refused_stream}
use Rattle.framing.proofs.laws.refused_stream.Goals as goal

pub returns : goal.returns
returns c = refused_stream
