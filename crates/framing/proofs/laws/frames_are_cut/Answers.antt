use Rattle.framing.proofs.StreamLemmas.{frames_are_cut}
use Rattle.framing.proofs.laws.frames_are_cut.Goals as goal

pub returns : goal.returns
returns c = frames_are_cut
