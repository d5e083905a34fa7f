use Rattle.std.proofs.Common.{take}
use Rattle.journal_office.specs.OfficeJournals.{PutsEntries}
use Rattle.journal_office.proofs.office_journal.put_each.Given as goal

-- the lines of the entries that were passed are put
abbrev pub invariant-loop-entry : goal.invariant-loop-entry
invariant-loop-entry g l = PutsEntries (take l.entry-index l.entries) l.initial.writing l.writing
