use Rattle.std.proofs.Common.{◌<◌, ◌^◌, ◌-◌, ◌+◌, ◌∙◌, ◌++◌, ap, inr, length, refl, subst, sym}
use Rattle.centre_core.proofs.CentreLemmas.{given_there, next_place}
use Rattle.centre_core.proofs.FoldedLemmas.{anyway, full, room_of}
use Rattle.centre_answers.proofs.QuestionLemmas.{pending_list}
use Rattle.centre_events.specs.Past.{past_of}
use Rattle.centre_past.specs.Legal.{lasting}
use Rattle.centre_past.specs.Reaching.{TellsLines}
use Rattle.centre_core.proofs.looking.look_at_other.Goals.{Else-is_full}
use Rattle.centre_core.proofs.looking.look_at_other.Goals as goal

-- the journal has room
room : (c : Else-is_full) → (length c.args.journal.now.entries < c.args.settings.limit) × (length c.args.journal.now.folded + length c.args.journal.now.entries < 2 ^ 64 - 1)
room c = room_of c.args.settings.limit (length c.args.journal.now.entries) (length c.args.journal.now.folded + length c.args.journal.now.entries) (sym c.is_full.ensures ∙ c.if-is_full.false)

pub returns-then-is_full-clause-verdict : goal.returns-then-is_full-clause-verdict
returns-then-is_full-clause-verdict c =
    λ centre. inr (full c.args.settings c.args.journal.now.folded c.args.journal.now.entries c.args.event.now (sym c.is_full.ensures ∙ c.if-is_full.true))

pub returns-clause-few : goal.returns-clause-few
returns-clause-few c = anyway c.answer.result (room (goal.at.returns-clause-few c).Else-is_full).0

pub returns-clause-number : goal.returns-clause-number
returns-clause-number c = anyway c.answer.result (room (goal.at.returns-clause-number c).Else-is_full).1

pub returns-clause-verdict : goal.returns-clause-verdict
returns-clause-verdict c =
    let there = room (goal.at.returns-clause-verdict c).Else-is_full in
    λ centre. given_there c.args.settings c.args.journal.now.folded c.args.journal.now.entries c.args.event.now c.answer.result there.0 there.1
    (c.answer.ensures.verdict (lasting c.args.settings.network) (past_of (c.args.journal.now.folded ++ c.args.journal.now.entries)) centre.legal refl centre.kept
    (c.tell_known.ensures (lasting c.args.settings.network) (past_of (c.args.journal.now.folded ++ c.args.journal.now.entries)) c.args.kept.now centre.legal centre.kept (subst TellsLines c.lines.ensures c.tell_lines.ensures))
    (pending_list (lasting c.args.settings.network) (past_of (c.args.journal.now.folded ++ c.args.journal.now.entries)) centre.legal c.args.kept.now.tables centre.kept.tables)
    (ap (λ n. n + 1) c.position-place.ensures.value ∙ next_place c.args.journal.now.folded c.args.journal.now.entries))

pub returns-clause-meter : goal.returns-clause-meter
returns-clause-meter c =
    λ centre. c.answer.ensures.meter (lasting c.args.settings.network) (past_of (c.args.journal.now.folded ++ c.args.journal.now.entries)) centre.legal
    (c.tell_known.ensures (lasting c.args.settings.network) (past_of (c.args.journal.now.folded ++ c.args.journal.now.entries)) c.args.kept.now centre.legal centre.kept (subst TellsLines c.lines.ensures c.tell_lines.ensures))
