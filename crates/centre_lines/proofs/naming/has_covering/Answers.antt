use Rattle.std.proofs.Common.{◌∙◌, ap, sym}
use Rattle.areas.specs.Areas.{covers}
use Rattle.coverage_board.specs.Parts.{has_areas}
use Rattle.centre_past.proofs.LineLemmas.{covered_by}
use Rattle.centre_lines.proofs.naming.has_covering.Goals as goal

pub returns-clause-covering : goal.returns-clause-covering
returns-clause-covering c =
    let l = c.args.plan.now.areas in
    c.is_some.ensures ∙ ap has_areas c.in_ok-covering.ensures.covering ∙ sym (covered_by (λ a. covers l a c.args.c) c.args.w.now.areas)
