use Rattle.journal_file.proofs.LoadingLemmas.{any_pieces}
use Rattle.journal_file.proofs.laws.any_pieces.Goals as goal

pub returns : goal.returns
returns c = any_pieces
