use Rattle.journal_laws.proofs.GivenLemmas.{accepted_has_line}
use Rattle.journal_laws.proofs.laws.accepted_has_line.Goals as goal

pub returns : goal.returns
returns c = accepted_has_line
