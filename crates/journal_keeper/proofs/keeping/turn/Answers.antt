use Rattle.journal_keeper.proofs.FollowingLemmas.{turn_broke}
use Rattle.journal_keeper.proofs.keeping.turn.Goals as goal

-- a write or the sync failed
pub returns-in_default-clause-err : goal.returns-in_default-clause-err
returns-in_default-clause-err g c =
    turn_broke (g.J.Followed.gives c.args.journal.now) c.args.keeper.now.writing c.put.new.writing c.keep.new.self (g.F.JournalFile.state c.args.keeper.now.file) (g.F.JournalFile.state c.keep.new.file) c.in_ok-made.ensures c.in_default.ensures.err c.in_default.ensures.part c.in_default.ensures.failed
