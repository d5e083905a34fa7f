use Rattle.std.proofs.Common.{◌++◌}
use Rattle.centre_events.specs.Past.{past_of}
use Rattle.centre_events.specs.declared.event.Event.TheVariants as event
use Rattle.centre_core.proofs.CentreLemmas.{answered_all, looked_within, reached_within, refused_as, starved, starved_as}
use Rattle.centre_core.specs.Centre.{past_over}
use Rattle.centre_past.proofs.ReadLemmas.{reads_kept, reads_then}
use Rattle.centre_past.specs.Legal.{lasting}
use Rattle.centre_core.proofs.looking.prepare_edit.Goals as goal

pub returns-in_err-look_at_edit-clause-refusal : goal.returns-in_err-look_at_edit-clause-refusal
returns-in_err-look_at_edit-clause-refusal c =
    λ centre.
    refused_as c.args.settings (past_over c.args.journal.now.folded c.args.journal.now.entries) (event.Edit c.args.edit.now) c.from_residual.result c.in_err-look_at_edit.field-0.0 c.from_residual.ensures.1
    (c.in_err-look_at_edit.ensures.verdict centre)

pub returns-in_err-look_at_edit-clause-meter : goal.returns-in_err-look_at_edit-clause-meter
returns-in_err-look_at_edit-clause-meter c =
    λ centre.
    looked_within c.args.journal.now.folded c.args.journal.now.entries c.args.edit.now c.args.kept.now.tables.lines.meter c.look_at_edit.new.kept.tables.lines.meter (c.look_at_edit.ensures.meter centre)

pub returns-in_err-make_room-clause-refusal : goal.returns-in_err-make_room-clause-refusal
returns-in_err-make_room-clause-refusal c =
    λ centre.
    starved_as c.args.settings (past_over c.args.journal.now.folded c.args.journal.now.entries) (event.Edit c.args.edit.now) c.from_residual-in_err-make_room.result c.in_err-make_room.field-0.0 c.from_residual-in_err-make_room.ensures.1 c.in_err-make_room.ensures.refusal
    (c.in_ok-look_at_edit.ensures.verdict centre)

pub returns-in_err-make_room-clause-meter : goal.returns-in_err-make_room-clause-meter
returns-in_err-make_room-clause-meter c =
    λ centre.
    looked_within c.args.journal.now.folded c.args.journal.now.entries c.args.edit.now c.args.kept.now.tables.lines.meter c.look_at_edit.new.kept.tables.lines.meter (c.look_at_edit.ensures.meter centre)

pub returns-in_err-reached-clause-reads : goal.returns-in_err-reached-clause-reads
returns-in_err-reached-clause-reads c = reads_then c.args.kept.now c.look_at_edit.new.kept c.reached_by_edit.new.kept c.look_at_edit.ensures.reads c.reached_by_edit.ensures.reads

pub returns-in_err-reached-clause-refusal : goal.returns-in_err-reached-clause-refusal
returns-in_err-reached-clause-refusal c =
    λ centre.
    starved c.args.settings (past_over c.args.journal.now.folded c.args.journal.now.entries) (event.Edit c.args.edit.now) c.from_residual-in_err-reached.result c.from_residual-in_err-reached.ensures.1
    (c.in_ok-look_at_edit.ensures.verdict centre)

pub returns-in_err-reached-clause-meter : goal.returns-in_err-reached-clause-meter
returns-in_err-reached-clause-meter c =
    λ centre.
    reached_within c.args.settings c.args.journal.now.folded c.args.journal.now.entries c.args.kept.now c.look_at_edit.new.kept c.args.edit.now c.args.kept.now.tables.lines.meter c.look_at_edit.new.kept.tables.lines.meter c.reached_by_edit.new.kept.tables.lines.meter
    (c.in_ok-look_at_edit.ensures.verdict centre)
    c.reached_by_edit.ensures.meter centre c.look_at_edit.ensures.reads (c.look_at_edit.ensures.meter centre)

pub returns-clause-accepted : goal.returns-clause-accepted
returns-clause-accepted c =
    λ centre.
    c.in_ok-look_at_edit.ensures.verdict centre

pub returns-clause-reads : goal.returns-clause-reads
returns-clause-reads c = reads_then c.args.kept.now c.look_at_edit.new.kept c.reached_by_edit.new.kept c.look_at_edit.ensures.reads c.reached_by_edit.ensures.reads

pub returns-clause-reached : goal.returns-clause-reached
returns-clause-reached c =
    λ centre a accepted.
    c.in_ok-reached.ensures.reached (lasting c.args.settings.network) (past_of (c.args.journal.now.folded ++ c.args.journal.now.entries)) a centre.legal (reads_kept (past_of (c.args.journal.now.folded ++ c.args.journal.now.entries)) c.args.kept.now c.look_at_edit.new.kept centre.kept c.look_at_edit.ensures.reads) (answered_all c.args.settings c.args.journal.now.folded c.args.journal.now.entries (event.Edit c.args.edit.now) a accepted)

pub returns-clause-meter : goal.returns-clause-meter
returns-clause-meter c =
    λ centre.
    reached_within c.args.settings c.args.journal.now.folded c.args.journal.now.entries c.args.kept.now c.look_at_edit.new.kept c.args.edit.now c.args.kept.now.tables.lines.meter c.look_at_edit.new.kept.tables.lines.meter c.reached_by_edit.new.kept.tables.lines.meter
    (c.in_ok-look_at_edit.ensures.verdict centre)
    c.reached_by_edit.ensures.meter centre c.look_at_edit.ensures.reads (c.look_at_edit.ensures.meter centre)
