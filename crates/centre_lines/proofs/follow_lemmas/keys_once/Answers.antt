use Rattle.centre_lines.proofs.TellLemmas as tell
use Rattle.centre_lines.proofs.follow_lemmas.keys_once.Goals as goal

pub returns : goal.returns
returns c = tell.keys_once
