use Rattle.centre_past.proofs.GivenLemmas.{err_checked}
use Rattle.centre_past.proofs.WarningLemmas.{update_first}
use Rattle.centre_events.specs.Refusals.{of_book}
use Rattle.centre_events.specs.Verdict.{update}
use Rattle.centre_answers.proofs.ReuseLemmas.{update_bad, update_good, update_reused}
use Rattle.centre_answers.proofs.events.reusing.check_update.Goals as goal

pub returns-in_err-check_active-clause-checked : goal.returns-in_err-check_active-clause-checked
returns-in_err-check_active-clause-checked c =
    λ settings past legal registered booked linked tables.
    err_checked (update past c.args.number c.args.content.now) c.from_residual.result (of_book c.in_err-check_active.field-0.0) c.from_residual.ensures.1
    (update_first past c.args.book.now c.args.number c.args.content.now c.in_err-check_active.field-0.0 booked c.in_err-check_active.ensures.refused)

pub returns-in_err-check_reused-clause-checked : goal.returns-in_err-check_reused-clause-checked
returns-in_err-check_reused-clause-checked c =
    λ settings past legal registered booked linked tables.
    err_checked (update past c.args.number c.args.content.now) c.from_residual-in_err-check_reused.result c.in_err-check_reused.field-0.0 c.from_residual-in_err-check_reused.ensures.1
    (update_reused past c.args.book.now c.args.number c.args.content.now c.in_err-check_reused.field-0.0 booked c.in_ok-check_active.ensures.accepted (c.in_err-check_reused.ensures.first settings past legal registered booked linked tables))

pub returns-in_err-check_content-clause-checked : goal.returns-in_err-check_content-clause-checked
returns-in_err-check_content-clause-checked c =
    λ settings past legal registered booked linked tables.
    err_checked (update past c.args.number c.args.content.now) c.from_residual-in_err-check_content.result (of_book c.in_err-check_content.field-0.0) c.from_residual-in_err-check_content.ensures.1
    (update_bad past c.args.book.now c.args.number c.args.content.now c.in_err-check_content.field-0.0 booked c.in_ok-check_active.ensures.accepted (c.in_ok-check_reused.ensures.first settings past legal registered booked linked tables) c.in_err-check_content.ensures.refused)

pub returns-clause-checked : goal.returns-clause-checked
returns-clause-checked c =
    λ settings past legal registered booked linked tables.
    update_good past c.args.book.now c.args.number c.args.content.now booked c.in_ok-check_active.ensures.accepted (c.in_ok-check_reused.ensures.first settings past legal registered booked linked tables) c.in_ok-check_content.ensures.accepted
