use Rattle.std.proofs.lemmas.Result.{on_ok_weaker}
use Rattle.centre_lines.proofs.FollowLemmas.{both_marked}
use Rattle.centre_lines.proofs.downs.mark_down.Goals as goal

pub returns-clause-downs : goal.returns-clause-downs
returns-clause-downs c =
    on_ok_weaker c.mark_down_for-2.result
    (λ done. both_marked c.args.event.now c.args.answer.now (record { bsc = c.args.b; cell = c.args.c }) c.args.tables.now.lines c.mark_down_for.new.tables.lines c.mark_down_for-2.new.tables.lines c.in_ok-mark_down_for.ensures.downs done)
    c.mark_down_for-2.ensures.downs
