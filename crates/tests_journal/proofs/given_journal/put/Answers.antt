use Rattle.tests_journal.proofs.GivenLemmas.{puts_more}
use Rattle.tests_journal.proofs.given_journal.put.Goals as goal

pub loop-index-preserved : goal.loop-index-preserved
loop-index-preserved c = puts_more c.args.writing.now _ c.put_if.new.writing c.loop-index.invariant c.in_ok-put_if.ensures
