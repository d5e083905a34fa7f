use Rattle.std.proofs.Common.{rules}
use Rattle.std.proofs.lemmas.List.Sorted.{IsPartitionPoint-from_clause}
use Rattle.cbsp_ie.specs.declared.fail_entry.FailEntry.{FailEntry}
use Rattle.centre_events.specs.Lookups.{is_before}
use Rattle.centre_events.proofs.LookupLemmas.{parted}
use Rattle.centre_events.proofs.lookups.failure_start.Goals as goal

pub returns : goal.returns
returns c =
    IsPartitionPoint-from_clause (λ (e : FailEntry). is_before e.id c.args.c) _ _ c.partition_point.ensures.partitioned (parted (λ (e : FailEntry). e.id) c.args.c c.args.failures.now c.requires) (λ a r q k. search rules)
