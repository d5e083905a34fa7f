use Rattle.std.proofs.Common.{◌≡◌, ◌≤◌, ◌+◌, map, take}
use Rattle.kept_tables.specs.Changes.{Begins, mixed}
use Rattle.kept_tables.specs.Consistent.{Consistent}
use Rattle.centre_lines.specs.Following.{change_of, happens}
use Rattle.centre_lines.proofs.following.change_lines.Given as goal

-- the lines passed are changed, each by one access at most, and the meter hasn't fallen
abbrev pub invariant-loop-line : goal.invariant-loop-line
invariant-loop-line l = record {
  settled : (b : Begins l.initial.tables (map (change_of (happens l.h) l.initial.plan l.initial.tables) l.earlier)) → Consistent l.tables (mixed b.from b.to (map (change_of (happens l.h) l.initial.plan l.initial.tables) (take l.line-index l.earlier)));
  downs : l.tables.lines.downs ≡ l.initial.tables.lines.downs;
  meter : l.tables.lines.meter ≤ l.initial.tables.lines.meter + l.line-index;
  least : l.initial.tables.lines.meter ≤ l.tables.lines.meter;
  plan : l.plan ≡ l.initial.plan;
}
