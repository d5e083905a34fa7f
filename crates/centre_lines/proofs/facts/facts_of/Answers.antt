use Rattle.std.proofs.Common.{Some, ◌∙◌, ap}
use Rattle.coverage_plan.specs.Plan.{State}
use Rattle.centre_past.specs.State.{covered_facts}
use Rattle.centre_lines.proofs.CoveredLemmas.{covered_is}
use Rattle.centre_lines.proofs.facts.facts_of.Goals as goal

pub returns-clause-facts : goal.returns-clause-facts
returns-clause-facts c =
    c.covered_facts.ensures.facts
    ∙ ap (λ (p : State). covered_facts p.register c.args.there.now.down c.args.there.now.spot.bsc c.args.there.now.spot.cell c.args.there.now.line c.in_ok-covering.covering (Some c.args.w.now)) c.in_ok-covering.ensures.same
    ∙ covered_is c.args.plan.now.register c.args.plan.now.areas c.args.there.now.down c.args.there.now.spot.bsc c.args.there.now.spot.cell c.args.there.now.line c.in_ok-covering.covering c.args.w.now c.in_ok-covering.ensures.covering
