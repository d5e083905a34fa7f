use Rattle.std.proofs.Common.{◌≡◌, ◌≤◌, ◌+◌, ◌-◌, ◌*◌, ◌++◌, length, take}
use Rattle.centre_past.specs.IsKept.{IsKept}
use Rattle.centre_core.specs.Centre.{all_reach}
use Rattle.centre_core.specs.Journal.{counted_by}
use Rattle.centre_events.specs.Past.{past_of}
use Rattle.centre_core.proofs.rebuilding.kept_of.Given as goal

-- the entries passed were folded, or read and followed
abbrev pub invariant-loop-done : goal.invariant-loop-done
invariant-loop-done l = record {
  folded : l.journal.folded ≡ l.initial.journal.folded;
  same : l.journal.entries ≡ l.initial.journal.entries;
  counted : l.journal.reads ≡ counted_by (l.done - length l.initial.journal.folded) l.initial.journal.reads;
  kept : IsKept (past_of (take l.done (l.initial.journal.folded ++ l.initial.journal.entries))) l.kept;
  metered : l.kept.tables.lines.meter + 4 * all_reach (past_of l.initial.journal.folded) ≤ l.base.kept.tables.lines.meter + 4 * all_reach (past_of (take l.done (l.initial.journal.folded ++ l.initial.journal.entries)));
}
