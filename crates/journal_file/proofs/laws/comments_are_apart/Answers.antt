use Rattle.journal_file.proofs.WritingLemmas.{comments_apart}
use Rattle.journal_file.proofs.laws.comments_are_apart.Goals as goal

pub returns : goal.returns
returns c = comments_apart
