use Rattle.std.proofs.Common.{◌≡◌, ◌++◌, drop}
use Rattle.std.specs.List.{flat_map}
use Rattle.status_figures.specs.Tables.{warning_records}
use Rattle.status_figures.proofs.tables.push_all_boards.Given as goal

-- what was appended so far, and what is ahead, are all of it
abbrev pub invariant-loop-warning : goal.invariant-loop-warning
invariant-loop-warning l = l.out.items ++ flat_map (warning_records) (drop l.warning-index l.warnings) ≡ l.initial.out.items ++ flat_map (warning_records) l.warnings
