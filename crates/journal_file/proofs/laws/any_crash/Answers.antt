use Rattle.journal_file.proofs.CrashLemmas.{any_crash}
use Rattle.journal_file.proofs.laws.any_crash.Goals as goal

pub returns : goal.returns
returns c = any_crash
