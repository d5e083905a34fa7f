-- The register of BSCs and cells: what it tells, what each event makes of it, and what refuses the event.
use Rattle.std.specs.Prelude.{ℕ, Bool, false, not, List, [], ◌∷◌, Option, Some, None, nat_eq, nat_le, ltb, length, filter, map, if◌then◌else◌}
use Rattle.std.specs.List.{list_any}
use Rattle.std.specs.Option.{is_some}
use Rattle.common.specs.Cell.{cell_eq, cell_lt}
use Rattle.common.specs.declared.cell.Cell.{Cell}
use Rattle.common.specs.Order.{inserted}
use Rattle.cell_register.specs.declared.placed.Placed.{Placed}
use Rattle.cell_register.specs.declared.refusal.Limit.TheVariants as limit
use Rattle.cell_register.specs.declared.refusal.Refusal.{Refusal}
use Rattle.cell_register.specs.declared.refusal.Refusal.TheVariants as refusal

-- the BSCs, and the cells with their BSCs, both in ascending order
pub record State : Type 0 where
  pub bscs : List ℕ
  pub cells : List Placed

-- no BSCs, and no cells
abbrev pub empty : State
empty = record { bscs = []; cells = [] }

-- the BSC is registered, with cells or without
abbrev pub has_bsc : State → ℕ → Bool
has_bsc r b = list_any (λ x. nat_eq x b) r.bscs

-- the BSC of the cell among cells with their BSCs; none where the cell is not one of them
abbrev pub place_among : List Placed → Cell → Option ℕ
place_among [] c = None
place_among (p ∷ ps) c = if cell_eq p.cell c then Some p.bsc else place_among ps c

-- the BSC at which the cell is registered
abbrev pub place_in : State → Cell → Option ℕ
place_in r c = place_among r.cells c

-- a cell is registered at the BSC
abbrev pub has_cells : State → ℕ → Bool
has_cells r b = list_any (λ p. nat_eq p.bsc b) r.cells

-- the cell, without its BSC
abbrev pub cell_of : Placed → Cell
cell_of p = p.cell

-- the cells that are registered at the BSC
abbrev pub cells_of : State → ℕ → List Cell
cells_of r b = map cell_of (filter (λ p. nat_eq p.bsc b) r.cells)

-- the registered cells of the location area
abbrev pub cells_in : State → ℕ → List Cell
cells_in r lac = map cell_of (filter (λ p. nat_eq p.cell.lac lac) r.cells)

-- every registered cell
abbrev pub all_cells : State → List Cell
all_cells r = map cell_of r.cells

-- registered cells stand in the order of cells
abbrev pub placed_lt : Placed → Placed → Bool
placed_lt p q = cell_lt p.cell q.cell

-- one more BSC, which has no cells
abbrev pub with_bsc : ℕ → State → State
with_bsc b r = record r { bscs = inserted ltb b r.bscs }

-- the BSC is not registered
abbrev pub without_bsc : ℕ → State → State
without_bsc b r = record r { bscs = filter (λ x. not (nat_eq x b)) r.bscs }

-- the cell at the BSC
abbrev pub new_placed : Cell → ℕ → Placed
new_placed c b = record { cell = c; bsc = b }

-- one more cell, at the BSC
abbrev pub with_cell : Cell → ℕ → State → State
with_cell c b r = record r { cells = inserted placed_lt (new_placed c b) r.cells }

-- the same, at the BSC if it is that cell
abbrev pub placed_after_move : Cell → ℕ → Placed → Placed
placed_after_move c b p = if cell_eq p.cell c then record p { bsc = b } else p

-- the cell is at the BSC, if it is registered
abbrev pub moved : Cell → ℕ → State → State
moved c b r = record r { cells = map (placed_after_move c b) r.cells }

-- the cell is not registered
abbrev pub without_cell : Cell → State → State
without_cell c r = record r { cells = filter (λ p. not (cell_eq p.cell c)) r.cells }

-- why the BSC cannot be registered: it is already, or there are 256 BSCs
abbrev pub add_bsc_checks : State → ℕ → List (Bool × Refusal)
add_bsc_checks r b = (has_bsc r b, refusal.BscExists) ∷ (nat_le 256 (length r.bscs), refusal.Limit limit.Bscs) ∷ []

-- why the BSC cannot be taken out: it is not registered, or it has cells
abbrev pub remove_bsc_checks : State → ℕ → List (Bool × Refusal)
remove_bsc_checks r b = (not (has_bsc r b), refusal.NoSuchBsc) ∷ (has_cells r b, refusal.BscHasCells) ∷ []

-- why the cell cannot be registered at the BSC: the BSC is not, the cell is already, or there are 65,536 cells
abbrev pub add_cell_checks : State → Cell → ℕ → List (Bool × Refusal)
add_cell_checks r c b = (not (has_bsc r b), refusal.NoSuchBsc) ∷ (is_some (place_in r c), refusal.CellExists) ∷ (nat_le 65536 (length r.cells), refusal.Limit limit.Cells) ∷ []

-- that BSC is the cell's
abbrev pub is_place : Option ℕ → ℕ → Bool
is_place None b = false
is_place (Some d) b = nat_eq d b

-- why the cell cannot be moved to the BSC: the BSC or the cell is not registered, or the cell is at this BSC already
abbrev pub move_cell_checks : State → Cell → ℕ → List (Bool × Refusal)
move_cell_checks r c b = (not (has_bsc r b), refusal.NoSuchBsc) ∷ (not (is_some (place_in r c)), refusal.NoSuchCell) ∷ (is_place (place_in r c) b, refusal.SameBsc) ∷ []

-- why the cell cannot be taken out: it is not registered
abbrev pub remove_cell_checks : State → Cell → List (Bool × Refusal)
remove_cell_checks r c = (not (is_some (place_in r c)), refusal.NoSuchCell) ∷ []
