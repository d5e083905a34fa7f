-- Where cells are registered.
use Rattle.std.specs.Prelude.{ℕ, Bool, List, Option, Some, None, if◌then◌else◌}
use Rattle.std.specs.Option.{is_some}
use Rattle.common.specs.Cell.{cell_eq}
use Rattle.common.specs.Sums.{count_of}
use Rattle.common.specs.declared.cell.Cell.{Cell}
use Rattle.centre_events.specs.Past.{Past, latest, by_edit, named}
use Rattle.coverage_plan.specs.declared.edit.Edit.{Edit}
use Rattle.coverage_plan.specs.declared.edit.Edit.TheVariants.{AddCell, MoveCell, RemoveCell}

-- where the edit puts the cell: at a BSC, or nowhere
abbrev pub place_mark : Cell → Edit → Option (Option ℕ)
place_mark c (AddCell d b) = if cell_eq d c then Some (Some b) else None
place_mark c (MoveCell d b) = if cell_eq d c then Some (Some b) else None
place_mark c (RemoveCell d) = if cell_eq d c then Some None else None
place_mark c other = None

-- the BSC at which the cell is registered
abbrev pub place : Past → Cell → Option ℕ
place past c = latest (λ e before. by_edit (place_mark c) e.event) (λ base. base.place c) past

-- the cell is registered
abbrev pub is_registered : Past → Cell → Bool
is_registered past c = is_some (place past c)

-- the cell that the edit registers at a BSC
abbrev pub added_cell : Edit → Option Cell
added_cell (AddCell d b) = Some d
added_cell (MoveCell d b) = Some d
added_cell other = None

-- every cell that was ever registered, each once
abbrev pub cells : Past → List Cell
cells past = named cell_eq added_cell (λ base. base.cells) past

-- how many cells are registered
abbrev pub cell_count : Past → ℕ
cell_count past = count_of (is_registered past) (cells past)
