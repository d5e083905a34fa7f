use Rattle.std.proofs.Common.{◌≡◌, ◌++◌, drop}
use Rattle.std.specs.List.{flat_map}
use Rattle.status_figures.specs.Metrics.{cells_of}
use Rattle.status_figures.proofs.warning_metrics.push_all_cells.Given as goal

-- what was appended so far, and what is ahead, are all of it
abbrev pub invariant-loop-warning : goal.invariant-loop-warning
invariant-loop-warning l = l.out.items ++ flat_map (cells_of) (drop l.warning-index l.warnings) ≡ l.initial.out.items ++ flat_map (cells_of) l.warnings
