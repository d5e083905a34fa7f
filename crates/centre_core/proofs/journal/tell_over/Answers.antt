use Rattle.centre_core.proofs.FoldedLemmas.{over_says}
use Rattle.centre_core.proofs.journal.tell_over.Goals as goal

pub returns : goal.returns
returns c = over_says c.args.journal.now.folded c.args.journal.now.entries
