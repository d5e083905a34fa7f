use Rattle.journal_office.proofs.PuttingLemmas.{puts_folded}
use Rattle.journal_office.proofs.office_journal.OfficeJournalFollowed.put_fold.Goals as goal

-- the lines of the entries that were handed out, and then that of the fold
pub returns-in_ok-put_fold-in-Ok : goal.returns-in_ok-put_fold-in-Ok
returns-in_ok-put_fold-in-Ok g c = record {
  folded = puts_folded c.taken.result c.in-Ok.folded c.args.writing.now c.put_all-result.new.writing c.put_fold.new.self c.taken.ensures c.in-Ok.ensures.folded c.in_ok-result-in-Ok.ensures.missed c.in_ok-result-in-Ok.ensures.put c.in_ok-put_fold-in-Ok.ensures.ok;
}
