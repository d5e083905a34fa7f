use Rattle.std.proofs.Common.{ltb, rules}
use Rattle.std.proofs.lemmas.List.Sorted.{IsPartitionPoint-from_clause, IsPartitionedBy-ltb}
use Rattle.centre_past.proofs.LinkPlaceLemmas.{numbers_rise}
use Rattle.centre_past.specs.declared.link.Link.{Link}
use Rattle.centre_past.proofs.kept_links.start_of.Goals as goal

pub returns : goal.returns
returns c =
    let parted = IsPartitionedBy-ltb (λ (l : Link). l.bsc) _ c.args.b (numbers_rise _ c.requires) in
    IsPartitionPoint-from_clause (λ (l : Link). ltb l.bsc c.args.b) _ _ c.partition_point.ensures.partitioned parted (λ a r q k. search rules)
