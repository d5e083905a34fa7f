use Rattle.journal_laws.proofs.GivenLemmas.{entries_have_lines}
use Rattle.journal_laws.proofs.laws.entries_have_lines.Goals as goal

pub returns : goal.returns
returns c = entries_have_lines
