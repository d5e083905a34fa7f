-- What identifications name, gathered as sets.
use Rattle.std.specs.Prelude.{Bool, ◌||◌}
use Rattle.std.specs.List.{list_any}
use Rattle.common.specs.Cell.{cell_eq}
use Rattle.common.specs.declared.cell.Cell.{Cell}
use Rattle.mirror.specs.declared.named_set.NamedSet.{NamedSet}

-- a location area, as its cell of the identity 0
abbrev pub area_of : Cell → Cell
area_of c = record { lac = c.lac; ci = 0 }

-- a cell identity, as the cell of the location area 0
abbrev pub identity_of : Cell → Cell
identity_of c = record { lac = 0; ci = c.ci }

-- all cells are named, or the cell's location area, its identity, or the cell itself
abbrev pub is_in : NamedSet → Cell → Bool
is_in s c = s.all || (list_any (cell_eq (area_of c)) s.location_areas.keys || (list_any (cell_eq (identity_of c)) s.identities.keys || list_any (cell_eq c) s.cells.keys))
