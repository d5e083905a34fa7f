use Rattle.journal_file.proofs.ReadingLemmas.{BreaksOff-unended}
use Rattle.journal_file.proofs.reading.load_all.Goals as goal

-- so many reads came to no end
pub returns-clause-err : goal.returns-clause-err
returns-clause-err g c = λ given before reads. BreaksOff-unended c.args.heading given _ before _ c.loop-turn.loading (c.loop-turn.invariant.reads given before reads)
