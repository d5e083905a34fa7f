use Rattle.std.proofs.Common.{◌≡◌, map, take}
use Rattle.centre_answers.specs.Asked.{Tells}
use Rattle.centre_events.specs.Past.{Past}
use Rattle.centre_events.specs.Warnings.{warnings_of}
use Rattle.centre_past.specs.Lists.{warning_row}
use Rattle.centre_answers.proofs.lists.warnings.rows_of.Given as goal

-- the rows of the warnings passed
abbrev pub invariant-loop-warning : goal.invariant-loop-warning
invariant-loop-warning l = (past : Past) → Tells past l.tables → l.warnings ≡ warnings_of past → l.rows.items ≡ map (warning_row past) (take l.warning-index l.warnings)
