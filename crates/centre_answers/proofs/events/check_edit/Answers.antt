use Rattle.std.proofs.Common.{◌∙◌, arith, sym, subst}
use Rattle.centre_events.specs.Kept.{IsRegisterOf}
use Rattle.centre_past.proofs.ReadLemmas.{known_kept}
use Rattle.centre_past.specs.Reaching.{TellsLines}
use Rattle.centre_answers.proofs.ReuseLemmas.{read_in_reach}
use Rattle.centre_answers.proofs.events.check_edit.Goals as goal

pub returns-in-Update-clause-checked : goal.returns-in-Update-clause-checked
returns-in-Update-clause-checked c =
    λ settings past legal kept. rw c.in-Update.is (c.check_update.ensures.checked settings past legal (subst (IsRegisterOf past) (sym c.register.ensures) kept.registered) (c.book.ensures ∙ kept.booked) kept.linked kept.tables)

pub returns-in-Update-clause-meter : goal.returns-in-Update-clause-meter
returns-in-Update-clause-meter c =
    λ settings past legal kept.
    let read = c.check_update.ensures.meter settings past c.args.kept.now.plan.register legal (c.book.ensures ∙ kept.booked) (known_kept settings past c.args.kept.now legal kept (subst TellsLines c.lines.ensures c.tell_lines.ensures)) in
    let reach = read_in_reach past c.in-Update.number c.in-Update.content in
    rw c.in-Update.is (omega (arith, read, reach))
