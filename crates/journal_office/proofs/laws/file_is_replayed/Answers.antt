use Rattle.journal_office.proofs.FileLemmas.{file_is_replayed}
use Rattle.journal_office.proofs.laws.file_is_replayed.Goals as goal

pub returns : goal.returns
returns c = file_is_replayed
