use Rattle.std.proofs.Common.{rules}
use Rattle.std.proofs.lemmas.List.Sorted.{IsPartitionPoint-from_clause}
use Rattle.areas.proofs.SelectorSearch.{comes_before, parted}
use Rattle.areas.specs.declared.selector.Selector.TheVariants as selector
use Rattle.areas.proofs.lookups.start_of.Goals as goal

pub returns-in-None-clause-start : goal.returns-in-None-clause-start
returns-in-None-clause-start c =
    IsPartitionPoint-from_clause (comes_before (selector.Lac c.args.lac)) _ _ c.partition_point.ensures.partitioned (parted (selector.Lac c.args.lac) c.args.selectors.now c.requires) (λ x r q k. search rules)
