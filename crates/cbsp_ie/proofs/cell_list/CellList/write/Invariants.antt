use Rattle.std.proofs.Common.{◌≡◌, ◌++◌, take}
use Rattle.std.specs.List.{flat_map}
use Rattle.cbsp_ie.specs.CellId.{id_octets}
use Rattle.cbsp_ie.proofs.cell_list.CellList.write.Given as goal

-- what stands before the index is appended
abbrev pub invariant-loop-index : goal.invariant-loop-index
invariant-loop-index l = l.out.items ≡ l.initial.out.items ++ flat_map id_octets (take l.index l.self.ids)
