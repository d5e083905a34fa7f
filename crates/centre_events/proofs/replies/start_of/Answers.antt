use Rattle.std.proofs.Common.{rules}
use Rattle.std.proofs.lemmas.List.Sorted.{IsPartitionPoint-from_clause}
use Rattle.common.specs.Cell.{cell_lt}
use Rattle.centre_events.specs.declared.reply.Reply.{Reply}
use Rattle.centre_events.proofs.LookupLemmas.{parted}
use Rattle.centre_events.proofs.ReplyLemmas.{own_id}
use Rattle.centre_events.proofs.replies.start_of.Goals as goal

pub returns : goal.returns
returns c =
    IsPartitionPoint-from_clause (λ (r : Reply). cell_lt r.cell c.args.c) _ _ c.partition_point.ensures.partitioned (parted own_id c.args.c c.args.replies.now c.requires) (λ a r q k. search rules)
