use Rattle.std.proofs.Common.{◌≡◌, ◌≤◌, ◌+◌, ◌++◌, take}
use Rattle.kept_tables.specs.Tables.{Tables}
use Rattle.centre_past.specs.Idle.{AsBefore}
use Rattle.centre_lines.specs.Following.{before_at}
use Rattle.centre_lines.proofs.reading.read_at.Given as goal

-- the lines of the warnings passed are read, and nothing of them changes
abbrev pub invariant-loop-warning : goal.invariant-loop-warning
invariant-loop-warning l = ((t : Tables) → AsBefore t l.initial.tables → (AsBefore t l.tables × (l.out.items ≡ l.initial.out.items ++ before_at l.edit l.initial.plan t (take l.warning-index l.warnings) l.spot))) × ((l.tables.lines.meter ≤ l.initial.tables.lines.meter + l.warning-index) × (l.plan ≡ l.initial.plan))
