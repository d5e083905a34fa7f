-- What the tables of a centre hold, and how they change with one line.
use Rattle.std.specs.Prelude.{◌≡◌, ℕ, true, false, List, nat_eq, map, if◌then◌else◌}
use Rattle.common.specs.declared.cell.Cell.{Cell}
use Rattle.coverage_board.specs.Board.{WarningNumbers, total_of, area_of}
use Rattle.coverage_board.specs.Numbers.{HasRoom, Holds, zero_numbers, moved}
use Rattle.kept_tables.specs.Facts.{deeds_of, total_of_line, area_of_line}
use Rattle.kept_tables.specs.View.{key_eq}
use Rattle.kept_tables.specs.declared.line_facts.LineFacts.{LineFacts}
use Rattle.mirror.specs.Line.{blank_line}
use Rattle.mirror.specs.Table.{Table, line_at, down_at}
use Rattle.mirror.specs.declared.line_key.LineKey.{LineKey}
use Rattle.order_maker.specs.Actions.{in_cell}
use Rattle.order_maker.specs.Pending.{Shifts, holds, is_listed}
use Rattle.order_maker.specs.declared.action.Action.{Action}
use Rattle.warning_book.specs.declared.kind.Kind.{Kind}

-- what a function takes
abbrev pub domain : {A B : Type 0} → (A → B) → Type 0
domain {A} f = A

-- what actions are held in
abbrev pub Held : Type 0
Held = domain holds

-- the lines, the actions that are pending, and the numbers of the board
pub record Tables : Type 0 where
  pub lines : Table
  pub pending : Held
  pub board : List (ℕ × WarningNumbers)

-- nothing is kept, pending or counted
pub record IsEmpty (t : Tables) : Type 0 where
  pub lines : (b : ℕ) (c : Cell) (w : ℕ) → line_at t.lines b c w ≡ blank_line
  pub downs : (k : Kind) (b : ℕ) (c : Cell) → down_at t.lines k b c ≡ false
  pub acts : (b : ℕ) (a : Action) → holds t.pending b a ≡ false
  pub totals : (w : ℕ) → total_of t.board w ≡ zero_numbers
  pub areas : (w : ℕ) (a : List ℕ) → area_of t.board w a ≡ zero_numbers
  pub meter : t.lines.meter ≡ 0

-- both have the same lines, the same actions pending and the same numbers
pub record SameTables (t u : Tables) : Type 0 where
  pub lines : (b : ℕ) (c : Cell) (w : ℕ) → line_at u.lines b c w ≡ line_at t.lines b c w
  pub acts : (b : ℕ) (a : Action) → holds u.pending b a ≡ holds t.pending b a
  pub totals : (w : ℕ) → total_of u.board w ≡ total_of t.board w
  pub areas : (w : ℕ) (a : List ℕ) → area_of u.board w a ≡ area_of t.board w a

-- from t to u one line changes: what is kept of it, what is pending for it, and what it adds to the numbers of its
-- warning and of each of the warning's areas
pub record Shifted (t u : Tables) (k : LineKey) (before after : LineFacts) : Type 0 where
  pub line : (q : LineKey) → line_at u.lines q.bsc q.cell q.warning ≡ (if key_eq k q then after.line else line_at t.lines q.bsc q.cell q.warning)
  pub acts : Shifts t.pending u.pending k.bsc (map (in_cell k.cell) (deeds_of before)) (map (in_cell k.cell) (deeds_of after))
  pub total : (w : ℕ) → total_of u.board w ≡ (if nat_eq k.warning w then moved (total_of t.board w) (total_of_line before) (total_of_line after) else total_of t.board w)
  pub area : (w : ℕ) (a : List ℕ) → area_of u.board w a ≡ (if nat_eq k.warning w then moved (area_of t.board w a) (area_of_line a before) (area_of_line a after) else area_of t.board w a)

-- what is read of the line is kept, what is to be ordered on it is pending, what it adds is a part of the numbers of its
-- warning and of each area, and they have room for what it adds then
pub record HasPart (t : Tables) (k : LineKey) (before after : LineFacts) : Type 0 where
  pub line_there : line_at t.lines k.bsc k.cell k.warning ≡ before.line
  pub acts_there : (a : Action) → is_listed a (map (in_cell k.cell) (deeds_of before)) ≡ true → holds t.pending k.bsc a ≡ true
  pub total_there : Holds (total_of t.board k.warning) (total_of_line before)
  pub total_room : HasRoom (total_of t.board k.warning) (total_of_line before) (total_of_line after)
  pub area_there : (a : List ℕ) → Holds (area_of t.board k.warning a) (area_of_line a before)
  pub area_room : (a : List ℕ) → HasRoom (area_of t.board k.warning a) (area_of_line a before) (area_of_line a after)
