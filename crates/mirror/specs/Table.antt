-- What a table of lines holds: a line for each BSC, cell and warning, which cells are down at each BSC for warnings
-- of each kind, and how often lines were read, set or copied.
use Rattle.std.specs.Prelude.{ℕ, Bool, ◌+◌, ◌-◌, ◌^◌, ◌&&◌, ◌||◌, List, nat_eq, min, if◌then◌else◌}
use Rattle.std.specs.List.{list_any}
use Rattle.std.specs.Map.{lookup}
use Rattle.std.specs.Option.{unwrap_or}
use Rattle.common.specs.Cell.{cell_eq}
use Rattle.common.specs.declared.cell.Cell.{Cell}
use Rattle.mirror.specs.Order.{Place, Slot}
use Rattle.mirror.specs.Line.{blank_line}
use Rattle.mirror.specs.declared.cells_down.CellsDown.{CellsDown}
use Rattle.mirror.specs.declared.line.Line.{Line}
use Rattle.mirror.specs.declared.line_key.LineKey.{LineKey}
use Rattle.warning_book.specs.declared.kind.Kind.{Kind}
use Rattle.warning_book.specs.declared.kind.Kind.TheVariants as kind

-- the lines of which something is kept, the cells that are down, and how often lines were read, set or copied
pub record Table : Type 0 where
  pub lines : List (Slot × Line)
  pub downs : CellsDown
  pub meter : ℕ

-- the slot is that of the BSC, the cell and the warning
abbrev pub is_slot : ℕ → Cell → ℕ → Slot → Bool
is_slot b c w s = nat_eq b s.bsc && (cell_eq c s.cell && nat_eq w s.warning)

-- the slot is one of the BSC and the cell, whatever its warning
abbrev pub is_slot_in : ℕ → Cell → Slot → Bool
is_slot_in b c s = nat_eq b s.bsc && cell_eq c s.cell

-- the place is that of the BSC and the cell
abbrev pub is_that_place : ℕ → Cell → Place → Bool
is_that_place b c p = nat_eq b p.bsc && cell_eq c p.cell

-- the key is that of the BSC, the cell and the warning
abbrev pub is_key : LineKey → ℕ → Cell → ℕ → Bool
is_key key b c w = nat_eq key.bsc b && (cell_eq key.cell c && nat_eq key.warning w)

-- the line of the BSC, the cell and the warning: blank where nothing is kept of them
abbrev pub line_at : Table → ℕ → Cell → ℕ → Line
line_at t b c w = unwrap_or (lookup (is_slot b c w) t.lines) blank_line

-- some line of the BSC and the cell isn't blank
abbrev pub has_line : Table → ℕ → Cell → Bool
has_line t b c = list_any (λ e. is_slot_in b c e.0) t.lines

-- the places that are down for warnings of the kind
abbrev pub downs_of : Kind → CellsDown → List Place
downs_of kind.Cbs downs = downs.cbs
downs_of kind.Emergency downs = downs.emergency

-- the BSC said that the cell failed for warnings of the kind, and didn't say since that it is up for them
abbrev pub down_at : Table → Kind → ℕ → Cell → Bool
down_at t k b c = list_any (is_that_place b c) (downs_of k t.downs)

-- the cell is down for warnings of some kind
abbrev pub down_for_some : Table → ℕ → Cell → Bool
down_for_some t b c = down_at t kind.Cbs b c || down_at t kind.Emergency b c

-- one access more; the greatest value of 64 bits stays
abbrev pub counted : ℕ → ℕ
counted n = if nat_eq n (2 ^ 64 - 1) then n else n + 1

-- so many accesses more, each counted; the greatest value of 64 bits stays
abbrev pub counted_all : ℕ → ℕ → ℕ
counted_all k n = min (n + k) (2 ^ 64 - 1)
