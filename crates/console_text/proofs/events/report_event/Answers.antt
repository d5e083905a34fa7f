use Rattle.std.proofs.Common.{refl}
use Rattle.centre_events.specs.declared.event.Event.TheVariants as event
use Rattle.console_text.specs.declared.line_event.LineEvent.TheVariants as came
use Rattle.console_text.proofs.ReportLemmas.{not_reported, reported}
use Rattle.console_text.proofs.events.report_event.Goals as goal

pub returns-in-Ok : goal.returns-in-Ok
returns-in-Ok c =
    reported c.args.generation c.args.bsc c.args.digits.now c.in_ok-message.field-0 c.in-Ok.message (came.Event (event.Report c.args.bsc c.args.generation c.in-Ok.message))
    c.in_ok-message.ensures c.in-Ok.is refl

pub returns-in-Err : goal.returns-in-Err
returns-in-Err c =
    not_reported c.args.generation c.args.bsc c.args.digits.now c.in_ok-message.field-0 c.in-Err.fault (came.Bad c.in-Err.fault) c.in_ok-message.ensures c.in-Err.is refl
