use Rattle.std.proofs.Common.{◌≡◌, ◌++◌, drop}
use Rattle.line_faults.specs.Faults.{seconds}
use Rattle.line_faults.proofs.finding.seconds.Given as goal

-- the words so far, and those of the rows ahead, are all of them
abbrev pub invariant-loop-row : goal.invariant-loop-row
invariant-loop-row l = l.choices.items ++ seconds l.first (drop l.row-index l.rows) ≡ seconds l.first l.rows
