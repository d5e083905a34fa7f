use Rattle.std.proofs.Common.{rules}
use Rattle.std.proofs.lemmas.List.Sorted.{IsPartitionPoint-from_clause}
use Rattle.common.specs.Cell.{cell_lt}
use Rattle.order_maker.proofs.CellLemmas.{parted}
use Rattle.order_maker.proofs.order_cells.start_of.Goals as goal

pub returns-clause-start : goal.returns-clause-start
returns-clause-start c =
    IsPartitionPoint-from_clause (λ d. cell_lt d c.args.c) _ _ c.partition_point.ensures.partitioned (parted c.args.c c.args.cells.now.items c.requires) (λ x r q k. search rules)
