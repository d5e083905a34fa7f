use Rattle.std.proofs.Common.{◌≡◌, ◌≤◌, ◌+◌, ◌*◌, length, take}
use Rattle.kept_tables.specs.Consistent.{Consistent}
use Rattle.centre_lines.specs.Following.{happens, keys_of}
use Rattle.centre_lines.specs.Walking.{Walks, walked}
use Rattle.centre_lines.proofs.walking.walk_indicated.Given as goal

-- the lines at the spots passed are walked
abbrev pub invariant-loop-spot : goal.invariant-loop-spot
invariant-loop-spot l = record {
  walked : (x : Walks l.initial.plan (happens l.h) l.initial.tables (keys_of l.spots l.all.items)) → Consistent l.tables (walked x (keys_of (take l.spot-index l.spots) l.all.items));
  downs : l.tables.lines.downs ≡ l.initial.tables.lines.downs;
  meter : l.tables.lines.meter ≤ l.initial.tables.lines.meter + 3 * (l.spot-index * length l.all.items);
  least : l.initial.tables.lines.meter ≤ l.tables.lines.meter;
  same : l.plan ≡ l.initial.plan;
}
