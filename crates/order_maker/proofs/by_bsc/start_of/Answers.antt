use Rattle.std.proofs.Common.{ltb, rules}
use Rattle.std.proofs.lemmas.List.Sorted.{IsPartitionPoint-from_clause, IsPartitionedBy-ltb}
use Rattle.order_maker.proofs.PlaceLemmas.{numbers_rise}
use Rattle.order_maker.specs.declared.bsc_orders.BscOrders.{BscOrders}
use Rattle.order_maker.proofs.by_bsc.start_of.Goals as goal

pub returns : goal.returns
returns c =
    let parted = IsPartitionedBy-ltb (λ (w : BscOrders). w.bsc) _ c.args.b (numbers_rise _ c.requires) in
    IsPartitionPoint-from_clause (λ (w : BscOrders). ltb w.bsc c.args.b) _ _ c.partition_point.ensures.partitioned parted (λ a r q k. search rules)
