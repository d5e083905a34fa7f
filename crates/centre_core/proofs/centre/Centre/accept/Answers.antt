use Rattle.centre_past.specs.Legal.{past}
use Rattle.centre_events.specs.declared.event.Event.TheVariants as event
use Rattle.centre_core.proofs.CentreLemmas.{comes_if}
use Rattle.centre_core.proofs.FitsLemmas.{carried_if, fits_if}
use Rattle.centre_core.proofs.centre.Centre.accept.Goals as goal

pub returns-in-Edit-clause-fits : goal.returns-in-Edit-clause-fits
returns-in-Edit-clause-fits c = fits_if c.args.self.now.known.settings (past c.args.self.now.known) (event.Edit c.in-Edit.edit) c.accept_edit.result c.tell_soundness.ensures.legal c.accept_edit.ensures.answer

pub returns-in-Edit-clause-carried : goal.returns-in-Edit-clause-carried
returns-in-Edit-clause-carried c = carried_if c.args.self.now.known.settings (past c.args.self.now.known) (event.Edit c.in-Edit.edit) c.accept_edit.result c.accept_edit.ensures.answer

pub returns-in_default-clause-fits : goal.returns-in_default-clause-fits
returns-in_default-clause-fits c = fits_if c.args.self.now.known.settings (past c.args.self.now.known) c.args.event c.accept_other.result c.tell_soundness.ensures.legal c.accept_other.ensures.answer

pub returns-in_default-clause-carried : goal.returns-in_default-clause-carried
returns-in_default-clause-carried c = carried_if c.args.self.now.known.settings (past c.args.self.now.known) c.args.event c.accept_other.result c.accept_other.ensures.answer

pub returns-in-Edit-clause-source : goal.returns-in-Edit-clause-source
returns-in-Edit-clause-source c = rw c.in-Edit.is (comes_if c.args.self.now.known (event.Edit c.in-Edit.edit) c.accept_edit.result c.accept_edit.ensures.refusal)

pub returns-in_default-clause-source : goal.returns-in_default-clause-source
returns-in_default-clause-source c = comes_if c.args.self.now.known c.args.event c.accept_other.result c.accept_other.ensures.refusal
