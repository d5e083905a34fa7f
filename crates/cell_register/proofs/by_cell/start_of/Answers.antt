use Rattle.std.proofs.Common.{rules}
use Rattle.std.proofs.lemmas.List.Sorted.{IsPartitionPoint-from_clause}
use Rattle.cell_register.proofs.PlacesLemmas.{comes_before, parted_at}
use Rattle.cell_register.proofs.by_cell.start_of.Goals as goal

pub returns-clause-start : goal.returns-clause-start
returns-clause-start c =
    IsPartitionPoint-from_clause (comes_before c.args.c) _ _ c.partition_point.ensures.partitioned (parted_at c.args.c c.args.places.now c.requires) (λ x r q k. search rules)
