use Rattle.std.proofs.Common.{◌≡◌, take, map}
use Rattle.cbsp_ie.specs.declared.form.Form.TheVariants as form
use Rattle.cbsp_ie.specs.Identifications.{id_of_cell}
use Rattle.cbsp_ie.proofs.cell_ids.CellIds.of_cells.Given as goal

-- the cells that the walk has passed are listed
abbrev pub invariant-loop-cell : goal.invariant-loop-cell
invariant-loop-cell l = l.list ≡ record { form = form.LacCi; ids = map id_of_cell (take l.cell-index l.cells) }
