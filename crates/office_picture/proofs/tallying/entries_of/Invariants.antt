use Rattle.std.proofs.Common.{◌≡◌, ◌++◌, drop, map}
use Rattle.office_picture.specs.Pictures.{entry_tally}
use Rattle.office_picture.proofs.tallying.entries_of.Given as goal

-- the counts so far, and those ahead, are all of them
abbrev pub invariant-loop-kind : goal.invariant-loop-kind
invariant-loop-kind l = l.tallies.items ++ map (entry_tally l.counts) (drop l.kind-index l.kinds) ≡ map (entry_tally l.counts) l.kinds
