use Rattle.std.proofs.Common.{◌≡◌, true, ◌&&◌, ◌||◌, drop}
use Rattle.std.specs.List.{list_any}
use Rattle.common.specs.Cell.{cell_eq}
use Rattle.common.specs.declared.cell.Cell.{Cell}
use Rattle.mirror.specs.Known.{are_of_cells, is_known, is_named}
use Rattle.mirror.proofs.line_table.LineTable.add_own_cells.Given as goal

-- those gathered and those to come are all, and those that were gathered before
abbrev pub invariant-loop-id : goal.invariant-loop-id
invariant-loop-id l =
    (are_of_cells (drop l.id-index l.ids) ≡ true)
    × ((d : Cell) → ((is_known l.self l.register l.fn.b d && is_named l.fn.network (drop l.id-index l.ids) d) || list_any (cell_eq d) l.gathered.keys) ≡ ((is_known l.self l.register l.fn.b d && is_named l.fn.network l.ids d) || list_any (cell_eq d) l.initial.gathered.keys))
