use Rattle.centre_lines.proofs.ThenLemmas as then
use Rattle.centre_lines.proofs.follow_lemmas.then_is.Goals as goal

pub returns : goal.returns
returns c = then.then_is
