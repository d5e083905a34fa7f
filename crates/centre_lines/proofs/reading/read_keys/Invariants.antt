use Rattle.std.proofs.Common.{◌≡◌, ◌≤◌, ◌+◌, take}
use Rattle.std.specs.List.{flat_map}
use Rattle.kept_tables.specs.Tables.{Tables}
use Rattle.centre_past.specs.Idle.{AsBefore}
use Rattle.centre_lines.specs.Following.{before_unless}
use Rattle.centre_lines.proofs.reading.read_keys.Given as goal

-- the lines of the keys passed are read, and nothing of them changes
abbrev pub invariant-loop-key : goal.invariant-loop-key
invariant-loop-key l = ((t : Tables) → AsBefore t l.initial.tables → (AsBefore t l.tables × (l.out.items ≡ flat_map (before_unless l.edit l.initial.plan t) (take l.key-index l.keys)))) × ((l.tables.lines.meter ≤ l.initial.tables.lines.meter + l.key-index) × (l.plan ≡ l.initial.plan))
