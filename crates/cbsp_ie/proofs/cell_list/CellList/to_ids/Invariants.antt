use Rattle.std.proofs.Common.{◌≡◌, take}
use Rattle.cbsp_ie.proofs.cell_list.CellList.to_ids.Given as goal

-- the identifications before the index are copied
abbrev pub invariant-loop-index : goal.invariant-loop-index
invariant-loop-index l = l.ids ≡ record { form = l.self.form; ids = take l.index l.self.ids }
