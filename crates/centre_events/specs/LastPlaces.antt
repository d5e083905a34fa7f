-- Where the last entry that names a cell stands in a list.
use Rattle.std.specs.Prelude.{◌≡◌, ℕ, ◌+◌, Bool, cond, List, [], ◌∷◌, length, max}
use Rattle.std.specs.BTreeMap.{is_at}
use Rattle.std.specs.Map.{lookup}
use Rattle.std.specs.Option.{unwrap_or}
use Rattle.common.specs.Cell.{cell_cmp}
use Rattle.common.specs.declared.cell.Cell.{Cell}
use Rattle.centre_events.specs.declared.last_places.LastPlaces.{LastPlaces}

-- the place, counted from 1, of the last entry that passes, in a list that has the last one first; 0 where none passes
abbrev pub last_place : {E : Type 0} → (E → Bool) → List E → ℕ
last_place p [] = 0
last_place p (e ∷ before) = cond (p e) (length before + 1) (last_place p before)

-- the place that is kept of a cell, and 0 where none is
abbrev pub place_at : List (Cell × ℕ) → Cell → ℕ
place_at places c = unwrap_or (lookup (is_at (cell_cmp c)) places) 0

-- a location area, as its cell of the identity 0
abbrev pub area_of : ℕ → Cell
area_of lac = record { lac = lac; ci = 0 }

-- a cell identity, as the cell of the location area 0
abbrev pub identity_of : ℕ → Cell
identity_of ci = record { lac = 0; ci = ci }

-- the greatest of the places that are kept of all cells, of the cell's location area, of its identity and of itself
abbrev pub place_in : LastPlaces → Cell → ℕ
place_in p c = max (max (max p.all (place_at p.location_areas.entries (area_of c.lac))) (place_at p.identities.entries (identity_of c.ci))) (place_at p.cells.entries c)

-- the places are those of the entries that pass for each cell, in a list that has the last one first
abbrev pub IsPlaced : {E : Type 0} → (Cell → E → Bool) → List E → LastPlaces → Type 0
IsPlaced test es p = (c : Cell) → place_in p c ≡ last_place (test c) es
