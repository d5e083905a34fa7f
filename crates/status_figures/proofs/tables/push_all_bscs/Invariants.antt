use Rattle.std.proofs.Common.{◌≡◌, ◌++◌, drop}
use Rattle.std.specs.List.{flat_map}
use Rattle.status_figures.specs.Tables.{bsc_record}
use Rattle.status_figures.proofs.tables.push_all_bscs.Given as goal

-- what was appended so far, and what is ahead, are all of it
abbrev pub invariant-loop-bsc : goal.invariant-loop-bsc
invariant-loop-bsc l = l.out.items ++ flat_map (bsc_record) (drop l.bsc-index l.bscs) ≡ l.initial.out.items ++ flat_map (bsc_record) l.bscs
