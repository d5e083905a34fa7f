-- Where a cell stands among the cells of an order.
use Rattle.std.specs.Prelude.{◌≡◌, ◌<◌, ℕ, true, false, List, length, slice_index_or}
use Rattle.std.specs.List.Sorted.{IsPartitionPoint}
use Rattle.common.specs.Cell.{cell_eq, cell_lt}
use Rattle.common.specs.declared.cell.Cell.{Cell}

-- before this place stand the cells that come before the cell, and from it on the others
abbrev pub IsStart : Cell → List Cell → ℕ → Type 0
IsStart c cells n = IsPartitionPoint (λ d. cell_lt d c ≡ true) (λ d. cell_lt d c ≡ false) cells n

-- the cell stands at this place
pub record StandsAt (c : Cell) (cells : List Cell) (n : ℕ) : Type 0 where
  pub bound : n < length cells
  pub same : (d : Cell) → cell_eq (slice_index_or cells n d) c ≡ true
