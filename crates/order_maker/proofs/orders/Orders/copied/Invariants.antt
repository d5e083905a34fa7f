use Rattle.std.proofs.Common.{◌≡◌, take}
use Rattle.order_maker.proofs.orders.Orders.copied.Given as goal

-- the orders that the walk has passed are copied
abbrev pub invariant-loop-order : goal.invariant-loop-order
invariant-loop-order l = l.orders.items ≡ take l.order-index l.all
