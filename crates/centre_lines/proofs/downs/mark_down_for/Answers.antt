use Rattle.std.proofs.Common.{Some, sym, ◌∙◌}
use Rattle.std.proofs.lemmas.Result.{on_ok_weaker}
use Rattle.mirror.specs.Table.{down_at}
use Rattle.centre_lines.proofs.FollowLemmas.{marked_at}
use Rattle.centre_lines.proofs.downs.mark_down_for.Goals as goal

pub returns-in-Some-clause-downs : goal.returns-in-Some-clause-downs
returns-in-Some-clause-downs c =
    on_ok_weaker c.set_down.result
    (λ done k d x. done k d x ∙ marked_at c.args.event.now c.args.answer.now c.args.kind c.args.b c.args.c (Some c.in-Some.down) (sym c.down_mark.ensures ∙ c.in-Some.is) k d x (down_at c.args.tables.now.lines k d x))
    c.set_down.ensures.set
