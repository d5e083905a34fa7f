use Rattle.journal_text.proofs.AskedLemmas.{asked_has_line}
use Rattle.journal_text.proofs.laws.asked_has_line.Goals as goal

pub returns : goal.returns
returns c = asked_has_line
