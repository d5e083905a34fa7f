use Rattle.std.proofs.Common.{ltb, rules}
use Rattle.std.proofs.lemmas.List.Sorted.{IsPartitionPoint-from_clause, IsPartitionedBy-ltb}
use Rattle.warning_book.proofs.SearchLemmas.{numbers_rise}
use Rattle.warning_book.specs.declared.warning.Warning.{Warning}
use Rattle.warning_book.proofs.lookups.start_of.Goals as goal

pub returns : goal.returns
returns c =
    let parted = IsPartitionedBy-ltb (λ (w : Warning). w.number) _ c.args.number (numbers_rise _ c.requires) in
    IsPartitionPoint-from_clause (λ (w : Warning). ltb w.number c.args.number) _ _ c.partition_point.ensures.partitioned parted (λ a r q k. search rules)
