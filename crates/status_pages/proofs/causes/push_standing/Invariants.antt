use Rattle.std.proofs.Common.{◌≡◌, ◌++◌, drop}
use Rattle.std.specs.List.{flat_map}
use Rattle.status_pages.specs.Causes.{warning_cause}
use Rattle.status_pages.proofs.causes.push_standing.Given as goal

-- what was appended so far, and what is ahead, are all of it
abbrev pub invariant-loop-warning : goal.invariant-loop-warning
invariant-loop-warning l = l.out.items ++ flat_map (warning_cause l.picture l.standing) (drop l.warning-index l.warnings) ≡ l.initial.out.items ++ flat_map (warning_cause l.picture l.standing) l.warnings
