use Rattle.std.proofs.Common.{◌≡◌, ◌++◌, take}
use Rattle.std.specs.List.{flat_map}
use Rattle.cbsp_ie.specs.CellId.{id_octets}
use Rattle.cbsp_ie.proofs.list_writing.append_ids.Given as goal

-- what the walk has passed is appended
abbrev pub invariant-loop-id : goal.invariant-loop-id
invariant-loop-id l = l.out.items ≡ l.initial.out.items ++ flat_map id_octets (take l.id-index l.ids)
