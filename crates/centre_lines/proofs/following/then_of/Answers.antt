use Rattle.std.proofs.Common.{◌∙◌, ap, sym}
use Rattle.kept_tables.specs.Changes.{Change}
use Rattle.centre_lines.specs.Following.{Happens, happens}
use Rattle.centre_lines.proofs.CoveredLemmas.{covered_before}
use Rattle.centre_lines.proofs.following.then_of.Goals as goal

pub returns-then-leaves_areas-clause-facts : goal.returns-then-leaves_areas-clause-facts
returns-then-leaves_areas-clause-facts c =
    let h : Happens = happens c.args.h.now in
    c.covered_then.ensures.facts ∙ ap (λ (x : Change). x.after) (covered_before h c.args.plan.now c.args.tables.now c.args.earlier.now (c.requires.covered (sym c.leaves_areas.ensures ∙ c.if-leaves_areas.true)))
