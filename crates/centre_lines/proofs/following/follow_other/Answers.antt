use Rattle.std.proofs.Common.{◌∙◌, ap}
use Rattle.std.proofs.lemmas.Result.{on_ok_weaker}
use Rattle.std.specs.List.{list_any}
use Rattle.kept_tables.specs.ConsistentLaws.{same_tables}
use Rattle.mirror.specs.Table.{downs_of, is_that_place}
use Rattle.centre_events.specs.Past.{After}
use Rattle.centre_past.specs.Facts.{facts}
use Rattle.centre_lines.specs.Following.{Happens, down_after, entry_of, happens}
use Rattle.centre_lines.proofs.JoinLemmas.{marked_then}
use Rattle.centre_lines.proofs.WalkLemmas.{other_away, walked_all, walks_all}
use Rattle.centre_lines.proofs.following.follow_other.Goals as goal

pub walk-requires : goal.walk-requires
walk-requires c = record { walks = rw (c.new-found.ensures) (walks_all c.args.plan.now c.args.tables.now (happens c.args.h.now) c.args.spots.now c.args.warnings.now c.requires.made) }

pub returns-clause-tables : goal.returns-clause-tables
returns-clause-tables c =
    let h : Happens = happens c.args.h.now in
    let walked = rw (c.new-found.ensures) at c.in_ok-walk.ensures.walked in
    on_ok_weaker c.mark_downs.result
    (λ downs x. same_tables c.walk.new.tables c.mark_downs.new.tables (facts (After (entry_of x.desk h) x.past)) c.mark_downs.ensures.lines.same (walked_all c.args.plan.now c.args.tables.now h c.args.spots.now c.args.warnings.now x c.walk.new.tables (walked (walks_all c.args.plan.now c.args.tables.now h c.args.spots.now c.args.warnings.now x))))
    c.mark_downs.ensures.downs

pub returns-clause-downs : goal.returns-clause-downs
returns-clause-downs c =
    let h : Happens = happens c.args.h.now in
    on_ok_weaker c.mark_downs.result
    (λ downs x k b d.
    downs k b d
    ∙ ap (λ ds. down_after h.event h.answer c.args.spots.now k b d (list_any (is_that_place b d) (downs_of k ds))) c.walk.ensures.downs
    ∙ marked_then x.past x.desk h c.args.spots.now c.args.tables.now x.downs (other_away c.args.plan.now c.args.tables.now h c.args.spots.now c.args.warnings.now x) k b d)
    c.mark_downs.ensures.downs
