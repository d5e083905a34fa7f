use Rattle.std.proofs.Common.{◌≡◌, ◌++◌, take}
use Rattle.std.specs.List.{flat_map}
use Rattle.cbsp_ie.specs.Written.{count_octets}
use Rattle.cbsp_ie.proofs.list_writing.append_counts.Given as goal

-- what the walk has passed is appended
abbrev pub invariant-loop-entry : goal.invariant-loop-entry
invariant-loop-entry l = l.out.items ≡ l.initial.out.items ++ flat_map count_octets (take l.entry-index l.entries)
