use Rattle.std.proofs.Common.{rules}
use Rattle.std.proofs.lemmas.List.Sorted.{IsPartitionPoint-from_clause}
use Rattle.cbsp_ie.specs.declared.count_entry.CountEntry.{CountEntry}
use Rattle.centre_events.specs.Lookups.{is_before}
use Rattle.centre_events.proofs.LookupLemmas.{parted}
use Rattle.centre_events.proofs.lookups.count_start.Goals as goal

pub returns : goal.returns
returns c =
    IsPartitionPoint-from_clause (λ (e : CountEntry). is_before e.id c.args.c) _ _ c.partition_point.ensures.partitioned (parted (λ (e : CountEntry). e.id) c.args.c c.args.entries.now c.requires) (λ a r q k. search rules)
