use Rattle.journal_keeper.proofs.FollowingLemmas.{puts_folded}
use Rattle.journal_keeper.proofs.keeping.put.Goals as goal

-- the next entries were put, and what the fold was answered
pub returns-in_ok-put_fold-in-Some : goal.returns-in_ok-put_fold-in-Some
returns-in_ok-put_fold-in-Some g c =
    puts_folded (g.J.Followed.gives c.args.journal.now) c.args.writing.now c.put_entries.new.writing c.put_fold.new.writing c.in_ok-put_fold-in-Some.field-0 c.in_ok-put_entries.ensures.put c.in_ok-put_fold-in-Some.ensures.folded
