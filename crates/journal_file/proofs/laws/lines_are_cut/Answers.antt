use Rattle.journal_file.proofs.LineLemmas.{lines_are_cut}
use Rattle.journal_file.proofs.laws.lines_are_cut.Goals as goal

pub returns : goal.returns
returns c = lines_are_cut
