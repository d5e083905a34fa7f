-- That tables are consistent with a view: each line is kept as it is read, what is pending is what is to be ordered on
-- the lines, and the numbers of the board are sums over the lines.
use Rattle.std.specs.Prelude.{◌≡◌, ◌<◌, ℕ, Bool, true, false, ◌&&◌, List, Option, Some, None, nat_eq, ltb}
use Rattle.std.specs.List.{list_any, list_all}
use Rattle.common.specs.Order.{each_once}
use Rattle.common.specs.Sums.{sum_of}
use Rattle.coverage_board.specs.Board.{total_of, area_of}
use Rattle.coverage_board.specs.Numbers.{zero_numbers}
use Rattle.coverage_board.specs.declared.numbers.Numbers.{Numbers}
use Rattle.kept_tables.specs.Facts.{deeds_of, total_of_line, area_of_line}
use Rattle.kept_tables.specs.Tables.{Tables}
use Rattle.kept_tables.specs.View.{View, key_at, key_of, spot_eq, is_spot}
use Rattle.kept_tables.specs.declared.spot.Spot.{Spot}
use Rattle.mirror.specs.Line.{state_of}
use Rattle.mirror.specs.Table.{line_at}
use Rattle.mirror.specs.declared.line_key.LineKey.{LineKey}
use Rattle.order_maker.specs.Grouping.{kind_eq}
use Rattle.order_maker.specs.Pending.{holds}
use Rattle.order_maker.specs.declared.action.Action.{Action}
use Rattle.order_maker.specs.declared.deed.Deed.{Deed}

-- the two are one deed
abbrev pub deed_eq : Deed → Deed → Bool
deed_eq x y = kind_eq x.kind y.kind && (nat_eq x.message_id y.message_id && nat_eq x.serial y.serial)

-- the deed is one of these
abbrev pub is_deed : Deed → List Deed → Bool
is_deed d deeds = list_any (deed_eq d) deeds

-- what the action does, wherever it does it
abbrev pub deed_of : Action → Deed
deed_of a = record { kind = a.kind; message_id = a.message_id; serial = a.serial }

-- each message that is to be ordered on a line is one of the warning that owns it
pub record Owned (owner : ℕ → ℕ → Option ℕ) (v : View) : Type 0 where
  pub owns : (k : LineKey) (d : Deed) → is_deed d (deeds_of (v k)) ≡ true → owner d.message_id d.serial ≡ Some k.warning

-- the action is to be ordered at the BSC on the line of the warning that owns its message
abbrev pub acts_by : View → Option ℕ → ℕ → Action → Bool
acts_by v None b a = false
acts_by v (Some w) b a = is_deed (deed_of a) (deeds_of (v (key_of b a.cell w)))

-- the numbers of the BSC, of the location area and of the cell fit 16 bits
abbrev pub is_in_range : Spot → Bool
is_in_range s = ltb s.bsc 65536 && (ltb s.cell.lac 65536 && ltb s.cell.ci 65536)

-- the sums of each of the numbers over a list
abbrev pub sum_numbers : {A : Type 0} → (A → Numbers) → List A → Numbers
sum_numbers f xs = record {
  awaited = sum_of (λ x. (f x).awaited) xs;
  on_air = sum_of (λ x. (f x).on_air) xs;
  failed = sum_of (λ x. (f x).failed) xs;
  left = sum_of (λ x. (f x).left) xs;
  broadcasts = sum_of (λ x. (f x).broadcasts) xs;
}

-- the numbers of the board are the sums of what the lines add, over some cells at their BSCs, each once; elsewhere a line
-- adds nothing
pub record Counts (t : Tables) (v : View) : Type 0 where
  pub spots : List Spot
  pub once : each_once spot_eq spots ≡ true
  pub in_range : list_all is_in_range spots ≡ true
  pub no_total : (s : Spot) (w : ℕ) → is_spot s spots ≡ false → total_of_line (v (key_at s w)) ≡ zero_numbers
  pub no_area : (s : Spot) (w : ℕ) (a : List ℕ) → is_spot s spots ≡ false → area_of_line a (v (key_at s w)) ≡ zero_numbers
  pub totals : (w : ℕ) → total_of t.board w ≡ sum_numbers (λ s. total_of_line (v (key_at s w))) spots
  pub areas : (w : ℕ) (a : List ℕ) → area_of t.board w a ≡ sum_numbers (λ s. area_of_line a (v (key_at s w))) spots

-- the tables are consistent with the view; each count of broadcasts fits 16 bits (TS 48.049, 8.2.10)
pub record Consistent (t : Tables) (v : View) : Type 0 where
  pub lines : (k : LineKey) → line_at t.lines k.bsc k.cell k.warning ≡ (v k).line
  pub owner : ℕ → ℕ → Option ℕ
  pub owned : Owned owner v
  pub acts : (b : ℕ) (a : Action) → holds t.pending b a ≡ acts_by v (owner a.message_id a.serial) b a
  pub counts : Counts t v
  pub counted : (k : LineKey) (s : ℕ) → (state_of (v k).line s).count < 65536
