use Rattle.std.proofs.Common.{◌≡◌, take}
use Rattle.std.specs.List.{flat_map}
use Rattle.kept_tables.specs.Tables.{Tables}
use Rattle.centre_answers.specs.Asked.{Tells}
use Rattle.centre_past.specs.Idle.{AsBefore}
use Rattle.centre_events.specs.Past.{Past}
use Rattle.centre_past.specs.Table.{keys_of}
use Rattle.centre_events.specs.Warnings.{warnings_of}
use Rattle.centre_answers.proofs.questions.keys_among.Given as goal

-- what is reported of the warnings passed is there, and nothing kept changes
abbrev pub invariant-loop-warning : goal.invariant-loop-warning
invariant-loop-warning l = ((t : Tables) → AsBefore t l.initial.tables → AsBefore t l.tables) × ((past : Past) (t : Tables) → Tells past t → AsBefore t l.initial.tables → l.warnings ≡ warnings_of past → l.out.items ≡ flat_map (keys_of past l.b l.cells) (take l.warning-index l.warnings))
