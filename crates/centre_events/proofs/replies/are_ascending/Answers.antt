use Rattle.std.proofs.Common.{rules}
use Rattle.std.proofs.lemmas.List.Sorted.{answers_always}
use Rattle.centre_events.specs.Replies.{reply_lt}
use Rattle.centre_events.proofs.ReplyLemmas.{ascends_at_true}
use Rattle.centre_events.proofs.replies.are_ascending.Goals as goal

pub returns : goal.returns
returns c h = ascends_at_true c.args.replies.now c.is_sorted_by.result h (c.is_sorted_by.ensures.cases reply_lt (answers_always _ _ _ (λ f a r q k. search rules)))
