use Rattle.std.proofs.Common.{◌≡◌, ◌++◌, List, map}
use Rattle.order_maker.specs.Grouping.{in_order, grouped}
use Rattle.order_maker.specs.Pending.{order_of, IsListOf}
use Rattle.order_maker.specs.declared.action.Action.{Action}
use Rattle.order_maker.proofs.order_map.OrderMap.groups.Given as goal

-- the orders made and those to come
abbrev pub invariant-loop-key : goal.invariant-loop-key
invariant-loop-key l =
    (xs : List Action) → IsListOf xs l.self l.fn.b → l.orders.items ++ map order_of l.key-iterator ≡ grouped (in_order xs)
