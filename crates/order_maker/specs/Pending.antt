-- The actions that are held for each BSC, and how they change with a line.
use Rattle.std.specs.Prelude.{◌≡◌, ℕ, Bool, true, false, ◌&&◌, ◌||◌, not, List, [], ◌∷◌, Option, Some, None, nat_eq, unwrap_or}
use Rattle.std.specs.BTreeMap.{is_at}
use Rattle.std.specs.List.{list_all, list_any}
use Rattle.std.specs.Map.{lookup}
use Rattle.std.specs.Option.{is_some, option_cmp}
use Rattle.std.specs.Ordering.{ordering_then, nat_cmp, bool_cmp}
use Rattle.std.specs.declared.cmp.Ordering.{Ordering}
use Rattle.common.specs.Cell.{cell_eq, cell_lt}
use Rattle.common.specs.Order.{each_once, is_ascending}
use Rattle.common.specs.declared.cell.Cell.{Cell}
use Rattle.order_maker.specs.Grouping.{kind_eq}
use Rattle.order_maker.specs.declared.action.Action.{Action}
use Rattle.order_maker.specs.declared.order.Order.{Order}
use Rattle.order_maker.specs.declared.order_kind.OrderKind.{OrderKind}
use Rattle.order_maker.specs.declared.order_kind.OrderKind.TheVariants.{Write, Replace, Kill}

-- an order of a BSC, but for its cells
pub record OrderKey : Type 0 where
  pub bsc : ℕ
  pub is_kill : Bool
  pub message_id : ℕ
  pub serial : ℕ
  pub old : Option ℕ

-- orders, each with its cells
abbrev pub HeldOrders : Type 0
HeldOrders = List (OrderKey × List Cell)

-- the two are one action
abbrev pub action_eq : Action → Action → Bool
action_eq x y = kind_eq x.kind y.kind && (nat_eq x.message_id y.message_id && (nat_eq x.serial y.serial && cell_eq x.cell y.cell))

-- the action is one of these
abbrev pub is_listed : Action → List Action → Bool
is_listed a actions = list_any (action_eq a) actions

-- the kind is a KILL
abbrev pub is_kill : OrderKind → Bool
is_kill Write = false
is_kill (Replace old) = false
is_kill Kill = true

-- the serial number that an order of the kind replaces
abbrev pub old_of : OrderKind → Option ℕ
old_of Write = None
old_of (Replace old) = Some old
old_of Kill = None

-- the kind of an order that is a KILL or not, and that replaces this serial number
abbrev pub kind_of : Bool → Option ℕ → OrderKind
kind_of true old = Kill
kind_of false None = Write
kind_of false (Some old) = Replace old

-- the order that the action is a part of, for the BSC
abbrev pub key_of : ℕ → Action → OrderKey
key_of b a = record { bsc = b; is_kill = is_kill a.kind; message_id = a.message_id; serial = a.serial; old = old_of a.kind }

-- the order in one cell
abbrev pub action_in : OrderKey → Cell → Action
action_in k c = record { kind = kind_of k.is_kill k.old; message_id = k.message_id; serial = k.serial; cell = c }

-- the order in its cells
abbrev pub order_in : OrderKey → List Cell → Order
order_in k cells = record { kind = kind_of k.is_kill k.old; message_id = k.message_id; serial = k.serial; cells = cells }

-- an order and its cells, as an order
abbrev pub order_of : OrderKey × List Cell → Order
order_of e = order_in e.0 e.1

-- no order of the BSC, nor of one with a greater number, comes before it
abbrev pub least : ℕ → OrderKey
least b = record { bsc = b; is_kill = false; message_id = 0; serial = 0; old = None }

-- by BSC, then as orders are sent: KILLs last, then by message identifier, serial number and replaced serial number
abbrev pub key_cmp : OrderKey → OrderKey → Ordering
key_cmp x y = ordering_then (nat_cmp x.bsc y.bsc) (ordering_then (bool_cmp x.is_kill y.is_kill) (ordering_then (nat_cmp x.message_id y.message_id) (ordering_then (nat_cmp x.serial y.serial) (option_cmp nat_cmp x.old y.old))))

-- an order of some kind: a KILL replaces nothing
abbrev pub is_proper : OrderKey → Bool
is_proper k = not (k.is_kill && is_some k.old)

-- the cell is one of these
abbrev pub has_cell : List Cell → Cell → Bool
has_cell cells c = list_any (cell_eq c) cells

-- there is one
abbrev pub has_some : List Cell → Bool
has_some [] = false
has_some (c ∷ cells) = true

-- the order is of some kind, and its cells are some, in ascending order
abbrev pub is_whole : OrderKey × List Cell → Bool
is_whole e = is_proper e.0 && (has_some e.1 && is_ascending cell_lt e.1)

-- the cells of the order; none, where it isn't held
abbrev pub cells_at : HeldOrders → OrderKey → List Cell
cells_at held k = unwrap_or (lookup (is_at (key_cmp k)) held) []

-- each order is of that BSC
abbrev pub are_of : ℕ → HeldOrders → Bool
are_of b held = list_all (λ e. nat_eq e.0.bsc b) held

-- each order is whole
abbrev pub AreWhole : HeldOrders → Type 0
AreWhole held = list_all is_whole held ≡ true

-- what was held, without that cell of the order
abbrev pub IsWithoutCell : HeldOrders → HeldOrders → OrderKey → Cell → Type 0
IsWithoutCell old new k c = (q : OrderKey) (x : Cell) → has_cell (cells_at new q) x ≡ (has_cell (cells_at old q) x && not (is_at (key_cmp k) q && cell_eq x c))

-- the action is held for the BSC: its cell is one of those of its order
abbrev pub holds : HeldOrders → ℕ → Action → Bool
holds held b a = has_cell (cells_at held (key_of b a)) a.cell

-- from old to new, of what is held for the BSC those actions that are gone are taken out and those that come are put
-- in, and nothing else changes
pub record Shifts (old new : HeldOrders) (b : ℕ) (gone come : List Action) : Type 0 where
  pub each : (d : ℕ) (a : Action) → holds new d a ≡ ((nat_eq d b && is_listed a come) || (holds old d a && not (nat_eq d b && is_listed a gone)))

-- what was held, with these actions for the BSC
abbrev pub IsWith : HeldOrders → HeldOrders → ℕ → List Action → Type 0
IsWith old new b actions = (d : ℕ) (a : Action) → holds new d a ≡ ((nat_eq d b && is_listed a actions) || holds old d a)

-- what was held, without these actions for the BSC
abbrev pub IsWithout : HeldOrders → HeldOrders → ℕ → List Action → Type 0
IsWithout old new b actions = (d : ℕ) (a : Action) → holds new d a ≡ (holds old d a && not (nat_eq d b && is_listed a actions))

-- the actions that are held for the BSC, each once, in some order
pub record IsListOf (actions : List Action) (held : HeldOrders) (b : ℕ) : Type 0 where
  pub once : each_once action_eq actions ≡ true
  pub same : (a : Action) → is_listed a actions ≡ holds held b a
