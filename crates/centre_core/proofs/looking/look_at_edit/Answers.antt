use Rattle.std.proofs.Common.{◌<◌, ◌^◌, ◌-◌, ◌∙◌, ◌++◌, ◌+◌, length, sym}
use Rattle.centre_core.proofs.CentreLemmas.{checked_there}
use Rattle.centre_core.proofs.FoldedLemmas.{anyway, full, room_of}
use Rattle.centre_events.specs.Past.{past_of}
use Rattle.centre_events.specs.declared.event.Event.TheVariants as event
use Rattle.centre_past.specs.Legal.{lasting}
use Rattle.centre_core.proofs.looking.look_at_edit.Goals.{Else-is_full}
use Rattle.centre_core.proofs.looking.look_at_edit.Goals as goal

-- the journal has room
room : (c : Else-is_full) → (length c.args.journal.now.entries < c.args.settings.limit) × (length c.args.journal.now.folded + length c.args.journal.now.entries < 2 ^ 64 - 1)
room c = room_of c.args.settings.limit (length c.args.journal.now.entries) (length c.args.journal.now.folded + length c.args.journal.now.entries) (sym c.is_full.ensures ∙ c.if-is_full.false)

pub returns-then-is_full-clause-verdict : goal.returns-then-is_full-clause-verdict
returns-then-is_full-clause-verdict c =
    λ centre. full c.args.settings c.args.journal.now.folded c.args.journal.now.entries (event.Edit c.args.edit.now) (sym c.is_full.ensures ∙ c.if-is_full.true)

pub returns-clause-few : goal.returns-clause-few
returns-clause-few c = anyway c.check_edit.result (room (goal.at.returns-clause-few c).Else-is_full).0

pub returns-clause-number : goal.returns-clause-number
returns-clause-number c = anyway c.check_edit.result (room (goal.at.returns-clause-number c).Else-is_full).1

pub returns-clause-verdict : goal.returns-clause-verdict
returns-clause-verdict c =
    let there = room (goal.at.returns-clause-verdict c).Else-is_full in
    λ centre.
    checked_there c.args.settings c.args.journal.now.folded c.args.journal.now.entries (event.Edit c.args.edit.now) c.check_edit.result there.0 there.1
    (c.check_edit.ensures.checked (lasting c.args.settings.network) (past_of (c.args.journal.now.folded ++ c.args.journal.now.entries)) centre.legal centre.kept)

pub returns-clause-meter : goal.returns-clause-meter
returns-clause-meter c =
    λ centre.
    c.check_edit.ensures.meter (lasting c.args.settings.network) (past_of (c.args.journal.now.folded ++ c.args.journal.now.entries)) centre.legal centre.kept
