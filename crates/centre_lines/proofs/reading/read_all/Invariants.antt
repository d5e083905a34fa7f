use Rattle.std.proofs.Common.{◌≡◌, ◌≤◌, ◌+◌, ◌*◌, true, take, length}
use Rattle.kept_tables.specs.Tables.{Tables}
use Rattle.centre_past.specs.Idle.{AsBefore}
use Rattle.centre_lines.specs.Following.{LinesAreOf, lines_before, leaves_cover}
use Rattle.centre_lines.proofs.reading.read_all.Given as goal

-- the lines at the spots passed are read, and nothing of them changes
abbrev pub invariant-loop-spot : goal.invariant-loop-spot
invariant-loop-spot l = ((t : Tables) → AsBefore t l.initial.tables → (AsBefore t l.tables × (l.out.items ≡ lines_before l.edit l.initial.plan t (take l.spot-index l.spots) l.warnings))) × (((leaves_cover l.edit ≡ true → LinesAreOf l.warnings l.initial.tables) → l.tables.lines.meter ≤ l.initial.tables.lines.meter + 2 * (l.spot-index * length l.warnings)) × (l.plan ≡ l.initial.plan))
