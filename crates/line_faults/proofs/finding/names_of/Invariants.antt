use Rattle.std.proofs.Common.{◌≡◌, ◌++◌, drop}
use Rattle.line_faults.proofs.finding.names_of.Given as goal

-- the names so far, and those ahead, are all of them
abbrev pub invariant-loop-word : goal.invariant-loop-word
invariant-loop-word l = l.names.items ++ drop l.word-index l.words ≡ l.words
