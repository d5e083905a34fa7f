use Rattle.centre_lines.proofs.WasLemmas as was
use Rattle.centre_lines.proofs.follow_lemmas.was_line.Goals as goal

pub returns : goal.returns
returns c = was.was_line
