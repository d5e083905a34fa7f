-- What is wholly at the beginning counts nowhere: a cell that is registered nowhere and in which nothing is on air, and a
-- BSC at which no cell is registered and nothing is on air. The numbers, the orders and the tables are the same over any
-- list of cells, each once, outside which every cell is at the beginning; and so are the sums over BSCs.
use Rattle.std.specs.Prelude.{◌≡◌, ℕ, true, false, List, [], None, nat_eq}
use Rattle.std.specs.List.{list_any}
use Rattle.cell_register.specs.Register.{is_place}
use Rattle.common.specs.Cell.{cell_eq}
use Rattle.common.specs.Order.{each_once}
use Rattle.common.specs.Sorting.{sorted_by}
use Rattle.common.specs.Sums.{sum_of}
use Rattle.common.specs.declared.cell.Cell.{Cell}
use Rattle.warning_book.specs.declared.warning.Warning.{Warning}
use Rattle.centre_events.specs.Effects.{is_among}
use Rattle.order_maker.specs.Grouping.{in_order, grouped}
use Rattle.centre_past.specs.Numbers.{number_at, number, broadcasts_at, broadcasts}
use Rattle.centre_events.specs.Past.{Past}
use Rattle.centre_events.specs.Pending.{actions_over, pending}
use Rattle.centre_events.specs.Places.{place, cells}
use Rattle.centre_events.specs.Presence.{presence}
use Rattle.centre_past.specs.Table.{key_lt, keys_over, table}
use Rattle.coverage_board.specs.declared.way.Way.{Way}
use Rattle.mirror.specs.declared.presence.Presence.TheVariants.{Absent}

-- the cell is registered nowhere, and nothing is on air there
pub record IsAtBeginning (past : Past) (c : Cell) : Type 0 where
  pub nowhere : place past c ≡ None
  pub silent : (b m s : ℕ) → presence past b c m s ≡ Absent

-- each of the cells once, and every other cell is at the beginning
pub record AreTheCells (past : Past) (cs : List Cell) : Type 0 where
  pub once : each_once cell_eq cs ≡ true
  pub others : (c : Cell) → is_among c cs ≡ false → IsAtBeginning past c

-- over these cells the numbers, the orders and the tables are what they are over all
pub record CountsNoOther (past : Past) (cs : List Cell) : Type 0 where
  pub numbers : (w : Warning) (way : Way) (b : ℕ) → number_at past w way cs b ≡ number_at past w way (cells past) b
  pub broadcasts : (w : Warning) (b : ℕ) → broadcasts_at past w cs b ≡ broadcasts_at past w (cells past) b
  pub orders : (b : ℕ) → grouped (in_order (actions_over past b cs)) ≡ pending past b
  pub tables : (b : ℕ) → sorted_by key_lt (keys_over past b cs) ≡ table past b

-- no cell is registered at the BSC, and nothing is on air there
pub record IsBscAtBeginning (past : Past) (b : ℕ) : Type 0 where
  pub empty : (c : Cell) → is_place (place past c) b ≡ false
  pub silent : (c : Cell) (m s : ℕ) → presence past b c m s ≡ Absent

-- each of the BSCs once, and every other BSC is at the beginning
pub record AreTheBscs (past : Past) (bs : List ℕ) : Type 0 where
  pub once : each_once nat_eq bs ≡ true
  pub others : (b : ℕ) → list_any (nat_eq b) bs ≡ false → IsBscAtBeginning past b

-- over these BSCs the numbers are what they are over all, and for every other BSC nothing is pending and no key is
-- reported
pub record CountsNoOtherBsc (past : Past) (bs : List ℕ) : Type 0 where
  pub numbers : (w : Warning) (way : Way) → sum_of (number_at past w way (cells past)) bs ≡ number past w way
  pub broadcasts : (w : Warning) → sum_of (broadcasts_at past w (cells past)) bs ≡ broadcasts past w
  pub orders : (b : ℕ) → list_any (nat_eq b) bs ≡ false → pending past b ≡ []
  pub tables : (b : ℕ) → list_any (nat_eq b) bs ≡ false → table past b ≡ []
