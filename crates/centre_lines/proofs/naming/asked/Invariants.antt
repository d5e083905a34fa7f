use Rattle.std.proofs.Common.{◌≡◌, take}
use Rattle.areas.specs.Areas.{areas_of}
use Rattle.warning_book.specs.Book.{naming_one_of}
use Rattle.centre_lines.proofs.naming.asked.Given as goal

-- those of the warnings passed
abbrev pub invariant-loop-warning : goal.invariant-loop-warning
invariant-loop-warning l = record {
  found : l.found.items ≡ naming_one_of (areas_of l.initial.plan.areas l.c) (take l.warning-index l.warnings);
  same : l.plan ≡ l.initial.plan;
}
