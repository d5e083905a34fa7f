-- The cells that are known at a BSC, of which its indications can speak: those that are registered there, that are down
-- there for warnings of some kind, or in which a message is on air, or may be, or is held back, or was broadcast.
use Rattle.std.specs.Prelude.{ℕ, Bool, ◌&&◌, ◌||◌, not, List, nat_eq}
use Rattle.std.specs.List.{filter, list_any}
use Rattle.cbsp_ie.specs.CellId.{names}
use Rattle.cbsp_ie.specs.declared.cell_id.CellId.{CellId}
use Rattle.cell_register.specs.Register.{is_place}
use Rattle.common.specs.Cell.{cell_lt}
use Rattle.common.specs.Sorting.{sorted_by}
use Rattle.common.specs.declared.cell.Cell.{Cell}
use Rattle.mirror.specs.Seen.{is_absent}
use Rattle.warning_book.specs.declared.warning.Warning.{Warning}
use Rattle.centre_events.specs.Counts.{count}
use Rattle.centre_events.specs.Down.{is_down_for_some}
use Rattle.centre_events.specs.Past.{Past}
use Rattle.centre_events.specs.Places.{place, cells}
use Rattle.centre_events.specs.Presence.{presence, is_held}
use Rattle.centre_events.specs.Warnings.{warnings_of, serials}

-- the message is on air in the cell at the BSC, or may be, or is held back, or was broadcast there
abbrev pub is_marked : Past → ℕ → Cell → ℕ → ℕ → Bool
is_marked past b c m s = not (is_absent (presence past b c m s)) || (is_held past b c m s || not (nat_eq (count past b c m s) 0))

-- a version of the warning is
abbrev pub has_mark : Past → ℕ → Cell → Warning → Bool
has_mark past b c w = list_any (is_marked past b c w.message_id) (serials w)

-- the cell is known at the BSC
abbrev pub is_known : Past → ℕ → Cell → Bool
is_known past b c = is_place (place past c) b || (is_down_for_some past b c || list_any (has_mark past b c) (warnings_of past))

-- one of the identifications names the cell
abbrev pub is_named : List ℕ → List CellId → Cell → Bool
is_named network ids c = list_any (λ id. names network id c) ids

-- the cells known at the BSC that the identifications name, in the order of cells
abbrev pub known_named : List ℕ → Past → ℕ → List CellId → List Cell
known_named network past b ids = sorted_by cell_lt (filter (λ c. is_known past b c && is_named network ids c) (cells past))
