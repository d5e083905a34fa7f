use Rattle.std.proofs.Common.{◌≡◌, ◌++◌, drop, string_bytes}
use Rattle.std.specs.List.{flat_map}
use Rattle.server_errors.specs.CellLines.{next_cell}
use Rattle.server_errors.proofs.cells.push_rest.Given as goal

-- the text so far, and the cells ahead, are all of it
abbrev pub invariant-loop-cell : goal.invariant-loop-cell
invariant-loop-cell l = string_bytes l.text ++ flat_map next_cell (drop l.cell-index l.cells) ≡ string_bytes l.initial.text ++ flat_map next_cell l.cells
