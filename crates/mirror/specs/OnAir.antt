-- In which cells of a BSC a version of a warning is on air, as a MESSAGE STATUS QUERY asks (TS 48.049, 8.1.3), and
-- how many lines are read to learn it.
use Rattle.std.specs.Prelude.{◌≡◌, ℕ, zero, suc, Bool, true, ◌&&◌, ◌||◌, not, List, [], ◌∷◌, Option, Some, None, nat_eq, ltb, length, map, filter, if◌then◌else◌}
use Rattle.std.specs.List.{list_any, take_while}
use Rattle.common.specs.Cell.{cell_eq, cell_lt}
use Rattle.common.specs.Order.{is_ascending}
use Rattle.common.specs.declared.cell.Cell.{Cell}
use Rattle.mirror.specs.Order.{Slot}
use Rattle.mirror.specs.Line.{state_of}
use Rattle.mirror.specs.Seen.{is_on_air}
use Rattle.mirror.specs.Table.{Table, line_at}
use Rattle.mirror.specs.declared.line.Line.{Line}

-- the cell comes after the given one, or none is given
abbrev pub is_after : Option Cell → Cell → Bool
is_after None c = true
is_after (Some d) c = cell_lt d c

-- the BSC said that the version of that serial number is on air in the cell
abbrev pub is_on_air_at : Table → ℕ → Cell → ℕ → ℕ → Bool
is_on_air_at t b c w s = is_on_air (state_of (line_at t b c w) s).presence

-- the cells are those after the given one in which the version of that serial number of the warning is on air at the
-- BSC, in ascending order
pub record AreOnAir (t : Table) (b w s : ℕ) (after : Option Cell) (cells : List Cell) : Type 0 where
  pub ascending : is_ascending cell_lt cells ≡ true
  pub exact : (c : Cell) → list_any (cell_eq c) cells ≡ (is_after after c && is_on_air_at t b c w s)

-- the slot is one of the BSC and the warning, whatever its cell
abbrev pub is_slot_for : ℕ → ℕ → Slot → Bool
is_slot_for b w s = nat_eq b s.bsc && nat_eq w s.warning

-- how many lines of the warning are kept at the BSC
abbrev pub line_count : Table → ℕ → ℕ → ℕ
line_count t b w = length (filter (λ e. is_slot_for b w e.0) t.lines)

-- how many of these are of cells that pass the test
abbrev pub line_count_where : Table → ℕ → ℕ → (Cell → Bool) → ℕ
line_count_where t b w test = length (filter (λ e. is_slot_for b w e.0 && test e.0.cell) t.lines)

-- the cell is one of these, or comes before one of them
abbrev pub is_up_to : List Cell → Cell → Bool
is_up_to cells c = list_any (λ d. not (cell_lt d c)) cells

-- how many lines of the warning at the BSC are read where these cells are found after the given one: all after it where
-- fewer are found than are asked for, else those up to the last cell found
abbrev pub read_count : Table → ℕ → ℕ → Option Cell → ℕ → List Cell → ℕ
read_count t b w after most cells = line_count_where t b w (λ c. is_after after c && (ltb (length cells) most || is_up_to cells c))

-- the first of the lines, as long as they are of the BSC and the warning
abbrev pub lines_for : ℕ → ℕ → List (Slot × Line) → List (Slot × Line)
lines_for b w es = take_while (λ e. is_slot_for b w e.0) es

-- by the line, the version of that serial number is on air
abbrev pub is_on_air_in : ℕ → Line → Bool
is_on_air_in s line = is_on_air (state_of line s).presence

-- the cells of those of the lines in which it is on air
abbrev pub on_air_cells : ℕ → List (Slot × Line) → List Cell
on_air_cells s es = map (λ e. e.0.cell) (filter (λ e. is_on_air_in s e.1) es)

-- the first of the lines, up to the one with which so many cells are found in which it is on air
abbrev pub until_found : ℕ → ℕ → List (Slot × Line) → List (Slot × Line)
until_found s most [] = []
until_found s zero (e ∷ es) = []
until_found s (suc more) (e ∷ es) = e ∷ until_found s (if is_on_air_in s e.1 then more else suc more) es
