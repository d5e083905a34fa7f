-- The lines that aren't blank, as they are found by their slots, and as they stand in the order of these.
use Rattle.std.specs.Prelude.{◌≡◌, cond, List, Option, map}
use Rattle.std.specs.BTreeMap.{is_at}
use Rattle.std.specs.List.{list_any}
use Rattle.std.specs.Map.{lookup}
use Rattle.std.specs.Option.{is_some, unwrap_or}
use Rattle.mirror.specs.Line.{blank_line}
use Rattle.mirror.specs.Order.{Slot, warning_slot_cmp}
use Rattle.mirror.specs.declared.line.Line.{Line}

-- the line that is kept at the slot
abbrev pub kept_at : List (Slot × Line) → Slot → Option Line
kept_at es s = lookup (is_at (warning_slot_cmp s)) es

-- the line at the slot: blank where nothing is kept
abbrev pub line_of : List (Slot × Line) → Slot → Line
line_of es s = unwrap_or (kept_at es s) blank_line

-- each of the slots with its line
abbrev pub lines_at : List Slot → List (Slot × Line) → List (Slot × Line)
lines_at ss es = map (λ s. (s, line_of es s)) ss

-- the slots are those at which a line is kept
abbrev pub AreSlotsOf : List Slot → List (Slot × Line) → Type 0
AreSlotsOf ss es = (s : Slot) → list_any (is_at (warning_slot_cmp s)) ss ≡ is_some (kept_at es s)

-- at the one slot that line is kept, or none, and at each other what was kept there
abbrev pub IsKept : Slot → Option Line → List (Slot × Line) → List (Slot × Line) → Type 0
IsKept s line es fs = (q : Slot) → kept_at fs q ≡ cond (is_at (warning_slot_cmp s) q) line (kept_at es q)
