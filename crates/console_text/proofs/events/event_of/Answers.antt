use Rattle.std.proofs.Common.{refl}
use Rattle.centre_events.specs.declared.event.Event.TheVariants as event
use Rattle.console_text.specs.declared.line_event.LineEvent.TheVariants as came
use Rattle.console_text.proofs.EventLemmas.{edited, no_edit}
use Rattle.console_text.proofs.events.event_of.Goals as goal

pub returns-in-Edit : goal.returns-in-Edit
returns-in-Edit c =
    edited c.args.generation c.args.line c.in_ok-edit.field-0 c.in-Edit.edit (came.Event (event.Edit c.in-Edit.edit)) c.in_ok-edit.ensures c.in-Edit.is refl

pub returns-in-Other : goal.returns-in-Other
returns-in-Other c =
    no_edit c.args.generation c.args.line c.in-Other.other c.in_ok-edit.field-0 c.other_event.result c.in_ok-edit.ensures c.in-Other.is c.other_event.ensures
