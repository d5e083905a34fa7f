use Rattle.std.proofs.Common.{◌≡◌, ◌++◌, drop}
use Rattle.std.specs.List.{flat_map}
use Rattle.status_figures.specs.Metrics.{tally_line}
use Rattle.status_figures.proofs.samples.push_tally_lines.Given as goal

-- what was appended so far, and what is ahead, are all of it
abbrev pub invariant-loop-tally : goal.invariant-loop-tally
invariant-loop-tally l = l.out.items ++ flat_map (tally_line l.name l.label) (drop l.tally-index l.tallies) ≡ l.initial.out.items ++ flat_map (tally_line l.name l.label) l.tallies
