use Rattle.std.proofs.Common.{map, ◌∙◌, ap}
use Rattle.order_maker.specs.Pending.{order_of}
use Rattle.order_maker.proofs.HeldLemmas.{orders_between, orders_held}
use Rattle.order_maker.proofs.order_map.OrderMap.orders_of.Goals as goal

pub returns-clause-orders : goal.returns-clause-orders
returns-clause-orders c =
    let part = rw (c.least.ensures, c.least-2.ensures, c.number-bsc.ensures.value) at (c.range.ensures.between tt) in
    λ xs l. ap (map order_of) (part ∙ orders_between c.args.b c.self.inside.orders.entries) ∙ orders_held c.args.b c.self.inside.orders.entries c.self.invariant c.range.ensures.ordered xs (rw (← c.self.view_is) at l)
