-- How a register keeps its cells: in their order, each with its BSC, and once more by BSC.
use Rattle.std.specs.Prelude.{◌≡◌, ◌<◌, ℕ, Bool, true, false, ◌&&◌, ◌||◌, not, List, Option, None, Some, nat_eq, length, slice_index_or, if◌then◌else◌}
use Rattle.std.specs.List.{list_any}
use Rattle.std.specs.List.Sorted.{IsPartitionPoint}
use Rattle.std.specs.Option.{IfSome, is_some}
use Rattle.common.specs.Cell.{cell_eq, cell_lt}
use Rattle.common.specs.Order.{is_ascending}
use Rattle.common.specs.declared.cell.Cell.{Cell}
use Rattle.cell_register.specs.Register.{place_among, placed_lt, is_place}
use Rattle.cell_register.specs.declared.placed.Placed.{Placed}
use Rattle.cell_register.specs.declared.seat.Seat.{Seat}

-- before this place stand the cells that come before the cell, and from it on the others
abbrev pub IsStart : Cell → List Placed → ℕ → Type 0
IsStart c ps n = IsPartitionPoint (λ p. cell_lt p.cell c ≡ true) (λ p. cell_lt p.cell c ≡ false) ps n

-- the cell stands at this place
pub record StandsAt (c : Cell) (ps : List Placed) (n : ℕ) : Type 0 where
  pub bound : n < length ps
  pub same : (d : Placed) → cell_eq (slice_index_or ps n d).cell c ≡ true

-- the cell with the number of its BSC
abbrev pub seat : ℕ → Cell → Seat
seat b c = record { bsc = b; cell = c }

-- no seat at the BSC comes before it
abbrev pub least : ℕ → Seat
least b = seat b (record { lac = 0; ci = 0 })

-- the cell is at the BSC
abbrev pub has_seat : List Seat → ℕ → Cell → Bool
has_seat seats b c = list_any (λ s. nat_eq s.bsc b && cell_eq s.cell c) seats

-- what it was, with the cell at the BSC
abbrev pub IsWithSeat : List Seat → List Seat → ℕ → Cell → Type 0
IsWithSeat old new b c = (d : ℕ) (e : Cell) → has_seat new d e ≡ ((nat_eq d b && cell_eq e c) || has_seat old d e)

-- what it was, without the cell at the BSC
abbrev pub IsWithoutSeat : List Seat → List Seat → ℕ → Cell → Type 0
IsWithoutSeat old new b c = (d : ℕ) (e : Cell) → has_seat new d e ≡ (not (nat_eq d b && cell_eq e c) && has_seat old d e)

-- it is an index: each cell is at its BSC, and at no other
abbrev pub IsIndex : List Seat → (Cell → Option ℕ) → Type 0
IsIndex seats place = (b : ℕ) (c : Cell) → has_seat seats b c ≡ is_place (place c) b

-- the same of an index, where there is one
abbrev pub IsIndexed : Option (List Seat) → (Cell → Option ℕ) → Type 0
IsIndexed seats place = IfSome seats (λ s. IsIndex s place)

-- the places of cells, with the cell at the BSC
abbrev pub with_place : Cell → ℕ → (Cell → Option ℕ) → Cell → Option ℕ
with_place c b place d = if cell_eq c d then Some b else place d

-- the places of cells, with the cell nowhere
abbrev pub without_place : Cell → (Cell → Option ℕ) → Cell → Option ℕ
without_place c place d = if cell_eq c d then None else place d

-- what was an index is one with the cell at the BSC, where the cell was registered nowhere
abbrev pub IsIndexWith : Option (List Seat) → Option (List Seat) → Cell → ℕ → Type 0
IsIndexWith old new c b = (place : Cell → Option ℕ) → is_some (place c) ≡ false → IsIndexed old place → IsIndexed new (with_place c b place)

-- what was an index is one without the cell, where the cell was at the BSC
abbrev pub IsIndexWithout : Option (List Seat) → Option (List Seat) → Cell → ℕ → Type 0
IsIndexWithout old new c b = (place : Cell → Option ℕ) → place c ≡ Some b → IsIndexed old place → IsIndexed new (without_place c place)

-- what was an index is one with the cell at BSC b, or there is none, where the cell was at BSC a
abbrev pub IsIndexAfterMove : Option (List Seat) → Option (List Seat) → Cell → ℕ → ℕ → Type 0
IsIndexAfterMove old new c a b = (place : Cell → Option ℕ) → place c ≡ Some a → IsIndexed old place → IsIndexed new (with_place c b place)

-- what holds of the cells and of their index
pub record ArePlaces (cells : List Placed) (seats : Option (List Seat)) : Type 0 where
  pub ascend : is_ascending placed_lt cells ≡ true
  pub indexed : IsIndexed seats (place_among cells)
