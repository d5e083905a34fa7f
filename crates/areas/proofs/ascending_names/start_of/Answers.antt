use Rattle.std.proofs.Common.{rules}
use Rattle.std.proofs.lemmas.List.Sorted.{IsPartitionPoint-from_clause}
use Rattle.areas.proofs.AscendingLemmas.{comes_before, parted}
use Rattle.areas.proofs.ascending_names.start_of.Goals as goal

pub returns-clause-point : goal.returns-clause-point
returns-clause-point c =
    IsPartitionPoint-from_clause (comes_before c.args.a.now) _ _ c.partition_point.ensures.partitioned (parted c.args.a.now c.args.names.now c.requires) (λ x r q k. search rules)
