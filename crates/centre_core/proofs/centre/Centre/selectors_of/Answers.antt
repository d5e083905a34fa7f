use Rattle.std.proofs.Common.{◌≡◌, ◌∙◌, ◌++◌, true, rules, subst, sym}
use Rattle.areas.specs.Areas.{has_area}
use Rattle.centre_core.specs.Centre.{past_over}
use Rattle.centre_events.specs.Kept.{AreAreasOf}
use Rattle.centre_events.specs.Past.{past_of}
use Rattle.centre_past.specs.IsKept.{IsKept}
use Rattle.centre_core.proofs.centre.Centre.selectors_of.Goals as goal

pub returns-clause-selectors : goal.returns-clause-selectors
returns-clause-selectors c =
    let kept : IsKept (past_of (c.self.inside.journal.folded ++ c.self.inside.journal.entries)) c.self.inside.kept = c.self.invariant.whole c.if-self.false in
    let there : has_area c.self.inside.kept.plan.areas c.args.area.now ≡ true = search rules in
    rw (← c.self.view_is) (
      c.in_ok-selectors.ensures (past_of (c.self.inside.journal.folded ++ c.self.inside.journal.entries)) (subst (AreAreasOf (past_of (c.self.inside.journal.folded ++ c.self.inside.journal.entries))) (sym c.areas-2.ensures) kept.selected) ∙ sym (c.tell_over.ensures.listed_selectors c.args.area.now),
      sym (c.tell_areas.ensures (past_over c.self.inside.journal.folded c.self.inside.journal.entries) (past_of (c.self.inside.journal.folded ++ c.self.inside.journal.entries)) c.self.inside.kept.plan.areas c.args.area.now c.tell_over.ensures kept.selected) ∙ there,
    )
