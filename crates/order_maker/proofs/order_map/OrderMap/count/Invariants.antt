use Rattle.std.proofs.Common.{◌≡◌, ◌+◌, ◌<◌, ◌^◌, List, length}
use Rattle.order_maker.specs.Grouping.{in_order, grouped}
use Rattle.order_maker.specs.Pending.{IsListOf}
use Rattle.order_maker.specs.declared.action.Action.{Action}
use Rattle.order_maker.proofs.order_map.OrderMap.count.Given as goal

-- the orders counted and those to come
abbrev pub invariant-loop : goal.invariant-loop
invariant-loop l = record {
  all : (xs : List Action) → IsListOf xs l.self l.fn.b → l.count + length l.iterator' ≡ length (grouped (in_order xs));
  few : l.count + length l.iterator' < 2 ^ 64;
}
