use Rattle.std.proofs.Common.{rules, ap, sym, ◌∙◌}
use Rattle.centre_past.specs.Lists.{status}
use Rattle.office.specs.Helds.{HeldState}
use Rattle.office.proofs.OfficeLemmas.{standing_if}
use Rattle.office.proofs.office.Office.status.Goals as goal

pub returns-clause-status : goal.returns-clause-status
returns-clause-status g c =
    standing_if c.deref.result.now c.args.desk.now c.status.result (search rules) (search rules) (search rules)
    (c.status.ensures ∙ ap (λ (h : HeldState). status h.centre) (c.deref-3.ensures ∙ sym c.deref.ensures))
