use Rattle.std.proofs.Common.{◌≡◌, ◌++◌, drop}
use Rattle.std.specs.List.{flat_map}
use Rattle.status_figures.specs.Metrics.{bsc_line}
use Rattle.status_figures.proofs.bsc_metrics.push_lines.Given as goal

-- what was appended so far, and what is ahead, are all of it
abbrev pub invariant-loop-bsc : goal.invariant-loop-bsc
invariant-loop-bsc l = l.out.items ++ flat_map (bsc_line l.metric) (drop l.bsc-index l.bscs) ≡ l.initial.out.items ++ flat_map (bsc_line l.metric) l.bscs
