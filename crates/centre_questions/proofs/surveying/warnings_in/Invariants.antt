use Rattle.std.proofs.Common.{◌≡◌, ◌++◌, drop}
use Rattle.std.specs.List.{flat_map}
use Rattle.centre_past.specs.Legal.{past}
use Rattle.centre_past.specs.Lists.{warning_rows}
use Rattle.centre_questions.specs.Surveys.{warning_at, warnings_in}
use Rattle.centre_questions.proofs.surveying.warnings_in.Given as goal

-- the warnings so far, and those ahead, are all of them
abbrev pub invariant-loop-row : goal.invariant-loop-row
invariant-loop-row l = l.warnings.items ++ flat_map (warning_at (past l.centre.known)) (drop l.row-index l.row-items) ≡ warnings_in (past l.centre.known) (warning_rows (past l.centre.known))
