use Rattle.journal_file.proofs.LineLemmas.{one_cut}
use Rattle.journal_file.proofs.laws.one_cut.Goals as goal

pub returns : goal.returns
returns c = one_cut
