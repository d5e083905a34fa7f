use Rattle.std.proofs.Common.{◌≡◌, ◌≤◌, ◌+◌, ◌*◌, map, take}
use Rattle.kept_tables.specs.Consistent.{Consistent}
use Rattle.kept_tables.specs.View.{key_at}
use Rattle.centre_lines.specs.Following.{happens}
use Rattle.centre_lines.specs.Walking.{Walks, walked}
use Rattle.centre_lines.proofs.walking.walk_spot.Given as goal

-- the lines of the warnings passed are walked
abbrev pub invariant-loop-warning : goal.invariant-loop-warning
invariant-loop-warning l = record {
  walked : (x : Walks l.initial.plan (happens l.h) l.initial.tables (map (key_at l.spot) l.warnings)) → Consistent l.tables (walked x (map (key_at l.spot) (take l.warning-index l.warnings)));
  downs : l.tables.lines.downs ≡ l.initial.tables.lines.downs;
  meter : l.tables.lines.meter ≤ l.initial.tables.lines.meter + 2 * l.warning-index;
  least : l.initial.tables.lines.meter ≤ l.tables.lines.meter;
  same : l.plan ≡ l.initial.plan;
}
