use Rattle.centre_lines.proofs.BeforeLemmas as before
use Rattle.centre_lines.proofs.before_lemmas.edit_was_reached.Goals as goal

pub returns : goal.returns
returns c = before.edit_was_reached
