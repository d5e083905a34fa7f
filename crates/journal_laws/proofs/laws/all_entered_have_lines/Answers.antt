use Rattle.journal_laws.proofs.EnteredLemmas.{all_entered_have_lines}
use Rattle.journal_laws.proofs.laws.all_entered_have_lines.Goals as goal

pub returns : goal.returns
returns c = all_entered_have_lines
