use Rattle.std.proofs.Common.{◌≡◌, take}
use Rattle.std.specs.List.{flat_map}
use Rattle.kept_tables.specs.Tables.{Tables}
use Rattle.centre_answers.specs.Asked.{Tells}
use Rattle.centre_answers.specs.Failing.{AreDownsOf, IsWanted}
use Rattle.centre_events.specs.Kept.{IsRegisterOf}
use Rattle.centre_events.specs.Past.{Past}
use Rattle.centre_past.specs.Idle.{AsBefore}
use Rattle.centre_past.specs.Lists.{failed_in}
use Rattle.centre_answers.proofs.lists.failed.failed_among.Given as goal

-- the rows of the cells passed are there, and nothing kept changes
abbrev pub invariant-loop-cell : goal.invariant-loop-cell
invariant-loop-cell l = ((t : Tables) → AsBefore t l.initial.tables → AsBefore t l.tables) × ((past : Past) (t : Tables) → Tells past t → AreDownsOf past t → IsRegisterOf past l.register → AsBefore t l.initial.tables → IsWanted past l.wanted.warning.now l.wanted.serial l.wanted.coverages.now → l.out.items ≡ flat_map (failed_in past l.wanted.warning.now) (take l.cell-index l.cells))
