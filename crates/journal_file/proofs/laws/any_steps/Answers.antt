use Rattle.journal_file.proofs.WritingLemmas.{any_steps}
use Rattle.journal_file.proofs.laws.any_steps.Goals as goal

pub returns : goal.returns
returns c = any_steps
