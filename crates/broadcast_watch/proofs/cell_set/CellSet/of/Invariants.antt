use Rattle.std.proofs.Common.{◌≡◌, take}
use Rattle.std.specs.List.{list_any}
use Rattle.common.specs.Cell.{cell_eq}
use Rattle.common.specs.declared.cell.Cell.{Cell}
use Rattle.broadcast_watch.proofs.cell_set.CellSet.of.Given as goal

-- those of the cells so far
abbrev pub invariant-loop-cell : goal.invariant-loop-cell
invariant-loop-cell l = (c : Cell) → list_any (cell_eq c) l.set.keys ≡ list_any (cell_eq c) (take l.cell-index l.cells)
