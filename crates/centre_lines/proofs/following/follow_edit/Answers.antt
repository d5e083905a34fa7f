use Rattle.std.proofs.Common.{map, refl, ◌∙◌, ap}
use Rattle.std.proofs.lemmas.Result.{on_ok_weaker}
use Rattle.std.specs.List.{list_any}
use Rattle.mirror.specs.Table.{downs_of, is_that_place}
use Rattle.centre_lines.specs.Following.{Happens, change_of, happens}
use Rattle.centre_lines.proofs.JoinLemmas.{bears_made, begins, settled, downs_then}
use Rattle.centre_lines.proofs.CoveredLemmas.{bears_covered}
use Rattle.centre_lines.proofs.following.follow_edit.Goals as goal

pub change_lines-requires-clause-covered : goal.change_lines-requires-clause-covered
change_lines-requires-clause-covered c = rw (c.new-found.ensures) (λ leaves. bears_covered (bears_made c.requires.made) leaves)

pub change_lines-requires-clause-begins : goal.change_lines-requires-clause-begins
change_lines-requires-clause-begins c = rw (c.new-found.ensures) (begins (bears_made c.requires.made) c.mark_downs.new.tables c.in_ok-mark_downs.ensures.lines c.in_ok-mark_downs.ensures.downs)

pub returns-clause-tables : goal.returns-clause-tables
returns-clause-tables c =
    let h : Happens = happens c.args.h.now in
    on_ok_weaker c.change_lines.result
    (λ done x. settled (bears_made x) c.mark_downs.new.tables c.change_lines.new.tables (map (change_of h c.args.plan.now c.mark_downs.new.tables) c.args.earlier.now) refl c.in_ok-mark_downs.ensures.lines c.in_ok-mark_downs.ensures.downs done)
    (rw (c.new-found.ensures) at c.change_lines.ensures.made)

pub returns-clause-downs : goal.returns-clause-downs
returns-clause-downs c =
    on_ok_weaker c.change_lines.result (λ done x k b d. ap (λ downs. list_any (is_that_place b d) (downs_of k downs)) c.change_lines.ensures.downs ∙ c.in_ok-mark_downs.ensures.downs k b d ∙ downs_then (bears_made x) k b d) c.change_lines.ensures.made
