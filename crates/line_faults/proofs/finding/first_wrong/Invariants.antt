use Rattle.line_faults.specs.Faults.{FitBelow}
use Rattle.line_faults.proofs.finding.first_wrong.Given as goal

-- the words so far may stand where they do
abbrev pub invariant-loop-place : goal.invariant-loop-place
invariant-loop-place l = FitBelow l.place l.form l.words
