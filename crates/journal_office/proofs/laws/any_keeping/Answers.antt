use Rattle.journal_keeper.proofs.KeepingLemmas.{any_keeping}
use Rattle.journal_office.specs.OfficeJournals.{SaysEntry}
use Rattle.journal_office.proofs.laws.any_keeping.Goals as goal

pub returns : goal.returns
returns c = any_keeping SaysEntry
