use Rattle.std.proofs.Common.{◌≡◌, ◌++◌, drop}
use Rattle.std.specs.List.{flat_map}
use Rattle.status_pages.specs.Causes.{bsc_cause}
use Rattle.status_pages.proofs.causes.push_bsc_causes.Given as goal

-- what was appended so far, and what is ahead, are all of it
abbrev pub invariant-loop-bsc : goal.invariant-loop-bsc
invariant-loop-bsc l = l.out.items ++ flat_map (bsc_cause l.taken) (drop l.bsc-index l.bscs) ≡ l.initial.out.items ++ flat_map (bsc_cause l.taken) l.bscs
