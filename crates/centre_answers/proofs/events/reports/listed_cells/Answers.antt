use Rattle.std.proofs.Common.{rules, subst, sym}
use Rattle.centre_past.specs.Idle.{AreKnownOf}
use Rattle.centre_answers.proofs.ListedLemmas.{listed_is}
use Rattle.centre_answers.proofs.events.reports.listed_cells.Goals as goal

pub returns : goal.returns
returns c =
    λ settings past legal knows. listed_is settings past c.args.network c.args.kept.now.tables.lines c.register.result.now c.args.b c.args.number c.args.ids.now c.in_ok-cells.cells legal (subst (AreKnownOf past c.args.kept.now.tables.lines) (sym c.register.ensures) knows) (search rules) c.in_ok-cells.ensures.order c.in_ok-cells.ensures.named
