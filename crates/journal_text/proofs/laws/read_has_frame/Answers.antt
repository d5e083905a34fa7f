use Rattle.journal_text.proofs.MessageLemmas.{read_has_frame}
use Rattle.journal_text.proofs.laws.read_has_frame.Goals as goal

pub returns : goal.returns
returns c = read_has_frame
