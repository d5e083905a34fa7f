-- Which cells are known at a BSC, of which warnings something is kept in one of them, and which of them a report names
-- (TS 48.049, 8.2.6).
use Rattle.std.specs.Prelude.{ℕ, Bool, false, ◌||◌, List, Option, Some, None, filter, map}
use Rattle.std.specs.List.{list_any, list_all}
use Rattle.std.specs.Option.{is_some}
use Rattle.cbsp_ie.specs.CellId.{names}
use Rattle.cbsp_ie.specs.declared.cell_id.CellId.{CellId}
use Rattle.cbsp_ie.specs.declared.cell_id.CellId.TheVariants as id
use Rattle.cell_register.specs.Register.{State, place_in, is_place}
use Rattle.common.specs.Cell.{cell_eq}
use Rattle.common.specs.declared.cell.Cell.{Cell}
use Rattle.mirror.specs.Table.{Table, down_for_some, has_line, is_slot_in}

-- the cell is registered at the BSC, or it is down there for warnings of some kind, or something is kept of a warning in it there
abbrev pub is_known : Table → State → ℕ → Cell → Bool
is_known t r b c = is_place (place_in r c) b || (down_for_some t b c || has_line t b c)

-- the numbers of the warnings of which a line is kept in the cell at the BSC
abbrev pub warnings_at : Table → ℕ → Cell → List ℕ
warnings_at t b c = map (λ e. e.0.warning) (filter (λ e. is_slot_in b c e.0) t.lines)

-- one of the identifications names the cell, where the centre's network is plmn
abbrev pub is_named : List ℕ → List CellId → Cell → Bool
is_named plmn ids c = list_any (λ id. names plmn id c) ids

-- the one cell that the identification can name, where it has a location area and a cell identity
abbrev pub own_cell : CellId → Option Cell
own_cell (id.Global plmn lac ci) = Some (record { lac = lac; ci = ci })
own_cell (id.LacCi lac ci) = Some (record { lac = lac; ci = ci })
own_cell (id.Ci ci) = None
own_cell (id.Lai plmn lac) = None
own_cell (id.Lac lac) = None
own_cell id.All = None

-- each identification can name one cell alone
abbrev pub are_of_cells : List CellId → Bool
are_of_cells ids = list_all (λ id. is_some (own_cell id)) ids

-- there is a cell, and it is that one
abbrev pub is_cell : Option Cell → Cell → Bool
is_cell None c = false
is_cell (Some d) c = cell_eq d c
