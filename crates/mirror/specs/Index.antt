-- Which lines something is kept of, once more, by their BSC and cell, and which of them are held.
use Rattle.std.specs.Prelude.{◌≡◌, ℕ, Bool, true, ◌&&◌, ◌||◌, not, List, Option, Some, None, nat_eq, ltb, map, filter, if◌then◌else◌}
use Rattle.std.specs.List.{list_all}
use Rattle.std.specs.Map.{lookup}
use Rattle.std.specs.Option.{unwrap_or}
use Rattle.common.specs.Cell.{cell_lt}
use Rattle.common.specs.declared.cell.Cell.{Cell}
use Rattle.mirror.specs.Blank.{is_blank}
use Rattle.mirror.specs.Held.{is_held_line}
use Rattle.mirror.specs.Line.{blank_line}
use Rattle.mirror.specs.Order.{Slot}
use Rattle.mirror.specs.Table.{Table, is_key, is_slot, is_slot_in, line_at}
use Rattle.mirror.specs.declared.line.Line.{Line}
use Rattle.mirror.specs.declared.line_key.LineKey.{LineKey}

-- one line is entered as that, or is not there any more; the others are as they were
abbrev pub IsEntered : LineKey → Option Bool → List (Slot × Bool) → List (Slot × Bool) → Type 0
IsEntered k entry old new = (b : ℕ) (c : Cell) (w : ℕ) → lookup (is_slot b c w) new ≡ (if is_key k b c w then entry else lookup (is_slot b c w) old)

-- the numbers of the warnings of those slots that are of the BSC and the cell, and that pass the test
abbrev pub kept_warnings : ℕ → Cell → (Bool → Bool) → List (Slot × Bool) → List ℕ
kept_warnings b c test es = map (λ e. e.0.warning) (filter (λ e. is_slot_in b c e.0 && test e.1) es)

-- the line's BSC has the smaller number, or it is the same BSC and the line's cell comes first
abbrev pub key_before : LineKey → LineKey → Bool
key_before j k = ltb j.bsc k.bsc || (nat_eq j.bsc k.bsc && cell_lt j.cell k.cell)

-- the line of the BSC, the cell and the warning
abbrev pub line_in : List (Slot × Line) → ℕ → Cell → ℕ → Line
line_in es b c w = unwrap_or (lookup (is_slot b c w) es) blank_line

-- one line is that, the others are as they were
abbrev pub IsSet : LineKey → Line → List (Slot × Line) → List (Slot × Line) → Type 0
IsSet k line es fs = (b : ℕ) (c : Cell) (w : ℕ) → line_in fs b c w ≡ (if is_key k b c w then line else line_in es b c w)

-- how a line is entered in the index: not at all where it is blank, and else with whether it is held
abbrev pub entry_of : Line → Option Bool
entry_of line = if is_blank line then None else Some (is_held_line line)

-- what holds of every table and its index: none of the lines that it keeps is blank, the index has the lines that aren't
-- blank, each with whether it is held, and no BSC has the number 0
pub record IsTable (t : Table) (index : List (Slot × Bool)) : Type 0 where
  pub none_blank : list_all (λ e. not (is_blank e.1)) t.lines ≡ true
  pub indexed : (b : ℕ) (c : Cell) (w : ℕ) → lookup (is_slot b c w) index ≡ entry_of (line_at t b c w)
  pub numbered : (c : Cell) (w : ℕ) → lookup (is_slot 0 c w) index ≡ None
