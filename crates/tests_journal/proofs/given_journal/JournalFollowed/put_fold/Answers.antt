use Rattle.tests_journal.proofs.GivenLemmas.{puts_fold}
use Rattle.tests_journal.proofs.given_journal.JournalFollowed.put_fold.Goals as goal

pub returns : goal.returns
returns g c = record { folded = puts_fold c.args.writing.now c.put.new.writing c.put_fold.new.self c.in_ok-put.ensures c.in_ok-put_fold.ensures.ok }
