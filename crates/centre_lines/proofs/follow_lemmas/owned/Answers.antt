use Rattle.centre_past.proofs.OwnedLemmas as owning
use Rattle.centre_lines.proofs.follow_lemmas.owned.Goals as goal

pub returns : goal.returns
returns c = owning.owned
