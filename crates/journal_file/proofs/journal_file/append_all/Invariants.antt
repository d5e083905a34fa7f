use Rattle.std.proofs.Common.{length}
use Rattle.journal_file.proofs.FileLemmas.{PutSoFar}
use Rattle.journal_file.proofs.journal_file.append_all.Given as goal

-- what is gone from the rest was put
abbrev pub invariant-loop-rest : goal.invariant-loop-rest
invariant-loop-rest g l = PutSoFar (g.F.JournalFile.state l.initial.file) (g.F.JournalFile.state l.file) l.octets l.rest

abbrev pub decreases-loop-rest : goal.decreases-loop-rest
decreases-loop-rest g l = length l.rest
