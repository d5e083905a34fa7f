-- The orders that are held, by BSC.
use Rattle.std.specs.Prelude.{◌≡◌, ℕ, Bool, true, List, nat_eq, ltb}
use Rattle.std.specs.List.{list_all, flat_map}
use Rattle.common.specs.Order.{is_ascending}
use Rattle.order_maker.specs.Pending.{HeldOrders, are_of}
use Rattle.order_maker.specs.declared.bsc_orders.BscOrders.{BscOrders}

-- BSCs stand in the order of their numbers
abbrev pub bsc_lt : BscOrders → BscOrders → Bool
bsc_lt d e = ltb d.bsc e.bsc

-- the orders are those of that BSC
abbrev pub is_bsc : ℕ → BscOrders → Bool
is_bsc b e = nat_eq e.bsc b

-- each order is of the BSC that has it
abbrev pub has_own : BscOrders → Bool
has_own e = are_of e.bsc e.orders

-- the BSCs stand in order, each with orders of its own
pub record AreByBsc (bscs : List BscOrders) : Type 0 where
  pub ordered : is_ascending bsc_lt bscs ≡ true
  pub own : list_all has_own bscs ≡ true

-- the orders of all BSCs
abbrev pub all_held : List BscOrders → HeldOrders
all_held bscs = flat_map (λ e. e.orders) bscs
