use Rattle.std.proofs.Common.{◌≡◌, map, take}
use Rattle.centre_events.specs.Past.{Past}
use Rattle.centre_past.specs.IsKept.{IsKept}
use Rattle.centre_past.specs.Lists.{cell_row}
use Rattle.centre_answers.proofs.lists.cells.rows_of.Given as goal

-- the rows of the cells passed
abbrev pub invariant-loop-cell : goal.invariant-loop-cell
invariant-loop-cell l = (past : Past) → IsKept past l.kept → l.rows.items ≡ map (cell_row past l.b) (take l.cell-index l.cells)
