use Rattle.std.proofs.Common.{rules}
use Rattle.std.proofs.lemmas.List.Sorted.{IsPartitionPoint-from_clause}
use Rattle.cbsp_ie.specs.declared.cell_id.CellId.{CellId}
use Rattle.centre_events.specs.Lookups.{is_before}
use Rattle.centre_events.proofs.LookupLemmas.{parted}
use Rattle.centre_events.proofs.lookups.id_start.Goals as goal

pub returns : goal.returns
returns c =
    IsPartitionPoint-from_clause (λ (e : CellId). is_before e c.args.c) _ _ c.partition_point.ensures.partitioned (parted (λ (e : CellId). e) c.args.c c.args.ids.now c.requires) (λ a r q k. search rules)
