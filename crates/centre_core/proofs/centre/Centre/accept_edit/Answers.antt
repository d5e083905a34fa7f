use Rattle.std.proofs.Common.{◌≡◌, ◌+◌, ◌*◌, ◌≤◌, ◌∙◌, ◌++◌, ◌∷◌, [], false, Ok, Err, sym, ap, subst, arith}
use Rattle.centre_core.specs.Centre.{IsWhole, past_over}
use Rattle.centre_events.specs.Past.{past_of}
use Rattle.centre_events.specs.Verdict.{verdict}
use Rattle.centre_past.specs.Reach.{edit_reach, reach, size}
use Rattle.centre_events.specs.declared.event.Event.TheVariants as event
use Rattle.centre_past.specs.declared.kept.Kept.{Kept}
use Rattle.centre_core.proofs.CentreLemmas.{Enters, centre_after, centre_entered, centre_stale, whole_centre, edit_enters, edit_lines, edit_lines_then, entry_accepted, kept_entered, leaves_stale, made_there, not_stale, refuses, refuses_starved}
use Rattle.centre_events.specs.declared.entry.Entry.{Entry}
use Rattle.centre_lines.specs.Following.{most_accesses}
use Rattle.centre_core.proofs.MeterLemmas.{lines_least, lines_most}
use Rattle.centre_core.proofs.centre.Centre.accept_edit.Goals.{After-enter, After-position-place, After-prepare_edit, In_ok-answer}
use Rattle.centre_core.proofs.centre.Centre.accept_edit.Goals as goal

-- the centre is whole before the edit
whole : (c : After-prepare_edit) → IsWhole c.self.inside.settings.network c.self.inside.journal.folded c.self.inside.journal.entries c.self.inside.kept
whole c = whole_centre c.self.invariant (not_stale c.self.view_is c.requires.whole)

-- an edit that is made is answered by its verdict
given : (c : In_ok-answer) → verdict c.self.inside.settings (past_over c.self.inside.journal.folded c.self.inside.journal.entries) (event.Edit c.args.edit) ≡ Ok c.in_ok-answer.answer
given c =
    let centre = whole (goal.at.In_ok-answer c).After-prepare_edit in
    made_there c.self.inside.settings c.args.edit (Ok c.in_ok-answer.answer) centre c.prepare_edit.ensures.reads c.in_ok-reached.ensures.few c.in_ok-reached.ensures.number (c.in_ok-reached.ensures.accepted centre) c.in_ok-answer.ensures.verdict

-- it is entered after all entries
enters : (c : After-position-place) → Enters c.make.new.kept c.in_ok-entry.entry (past_of (c.self.inside.journal.folded ++ c.self.inside.journal.entries)) (c.position-place.result + 1) false c.in_ok-reached.reached.spots.items c.in_ok-reached.reached.lines
enters c =
    let centre = whole (goal.at.After-position-place c).After-prepare_edit in
    let answered = given (goal.at.After-position-place c).In_ok-answer in
    edit_enters c.self.inside.settings centre c.in_ok-reached.ensures.number c.prepare_edit.ensures.folded c.prepare_edit.ensures.entries c.position-place.ensures.value c.prepare_edit.ensures.reads answered c.in_ok-answer.ensures.made c.in_ok-entry.ensures.entry (c.in_ok-reached.ensures.reached centre c.in_ok-answer.answer answered)

-- the lines that were read or set by then
lines : (c : After-enter) → c.enter.new.kept.tables.lines.meter ≤ c.self.inside.kept.tables.lines.meter + 4 * reach (past_over c.self.inside.journal.folded c.self.inside.journal.entries) (event.Edit c.args.edit) (verdict c.self.inside.settings (past_over c.self.inside.journal.folded c.self.inside.journal.entries) (event.Edit c.args.edit))
lines c =
    let centre = whole (goal.at.After-enter c).After-prepare_edit in
    let answered = given (goal.at.After-enter c).In_ok-answer in
    edit_lines_then c.self.inside.settings c.self.inside.journal.folded c.self.inside.journal.entries c.args.edit c.in_ok-answer.answer c.make.new.kept.plan.book c.self.inside.kept.tables.lines.meter c.make.new.kept.tables.lines.meter c.enter.new.kept.tables.lines.meter c.in_ok-reached.reached.spots.items c.in_ok-reached.reached.lines
    (subst (λ n. n ≤ c.self.inside.kept.tables.lines.meter + 3 * size (edit_reach (past_over c.self.inside.journal.folded c.self.inside.journal.entries) c.args.edit)) (sym (ap (λ (k : Kept). k.tables.lines.meter) c.in_ok-answer.ensures.made)) (c.prepare_edit.ensures.meter centre))
    (subst (λ (y : Entry). c.enter.new.kept.tables.lines.meter ≤ c.make.new.kept.tables.lines.meter + most_accesses y.event y.answer c.make.new.kept.plan.book c.in_ok-reached.reached.spots.items c.in_ok-reached.reached.lines) c.in_ok-entry.ensures.entry c.enter.ensures.meter)
    (c.in_ok-reached.ensures.reached centre c.in_ok-answer.answer answered)

-- and they are no fewer than before
risen : (c : After-enter) → c.self.inside.kept.tables.lines.meter ≤ c.enter.new.kept.tables.lines.meter
risen c = omega (arith, c.prepare_edit.ensures.reads.tables.meter, ap (λ (k : Kept). k.tables.lines.meter) c.in_ok-answer.ensures.made, c.enter.ensures.least)

pub invariant_of-self : goal.invariant_of-self
invariant_of-self c = centre_after c.self.invariant c.prepare_edit.ensures.folded c.prepare_edit.ensures.entries c.prepare_edit.ensures.reads

pub returns-in_err-reached-clause-refusal : goal.returns-in_err-reached-clause-refusal
returns-in_err-reached-clause-refusal c =
    let centre = whole (goal.at.returns-in_err-reached-clause-refusal c).After-prepare_edit in
    refuses c.args.self.now.known (event.Edit c.args.edit) c.from_residual.result c.in_err-reached.field-0.0 c.from_residual.ensures.1 c.requires.whole (rw (← c.self.view_is) (c.in_err-reached.ensures.refusal centre))

pub returns-in_err-reached-clause-lines : goal.returns-in_err-reached-clause-lines
returns-in_err-reached-clause-lines c =
    let centre = whole (goal.at.returns-in_err-reached-clause-lines c).After-prepare_edit in
    rw (← c.self.view_is) (lines_most c.self.inside.base.begun _ _ _ (edit_lines c.self.inside.settings (past_over c.self.inside.journal.folded c.self.inside.journal.entries) c.args.edit c.self.inside.kept.tables.lines.meter c.prepare_edit.new.kept.tables.lines.meter (c.prepare_edit.ensures.meter centre)))

pub invariant_of-self-in_err-answer : goal.invariant_of-self-in_err-answer
invariant_of-self-in_err-answer c =
    rw c.in_err-answer.ensures.unchanged (centre_after c.self.invariant c.prepare_edit.ensures.folded c.prepare_edit.ensures.entries c.prepare_edit.ensures.reads)

pub returns-in_err-answer-clause-refusal : goal.returns-in_err-answer-clause-refusal
returns-in_err-answer-clause-refusal c =
    let centre = whole (goal.at.returns-in_err-answer-clause-refusal c).After-prepare_edit in
    refuses c.args.self.now.known (event.Edit c.args.edit) c.from_residual-in_err-answer.result c.in_err-answer.field-0.0 c.from_residual-in_err-answer.ensures.1 c.requires.whole
    (rw (← c.self.view_is) (made_there c.self.inside.settings c.args.edit (Err c.in_err-answer.field-0.0) centre c.prepare_edit.ensures.reads c.in_ok-reached.ensures.few c.in_ok-reached.ensures.number (c.in_ok-reached.ensures.accepted centre) c.in_err-answer.ensures.verdict))

pub returns-in_err-answer-clause-lines : goal.returns-in_err-answer-clause-lines
returns-in_err-answer-clause-lines c =
    let centre = whole (goal.at.returns-in_err-answer-clause-lines c).After-prepare_edit in
    rw (← c.self.view_is, c.in_err-answer.ensures.unchanged) (lines_most c.self.inside.base.begun _ _ _ (edit_lines c.self.inside.settings (past_over c.self.inside.journal.folded c.self.inside.journal.entries) c.args.edit c.self.inside.kept.tables.lines.meter c.prepare_edit.new.kept.tables.lines.meter (c.prepare_edit.ensures.meter centre)))

pub enter-requires-clause-finishes : goal.enter-requires-clause-finishes
enter-requires-clause-finishes c = (enters (goal.at.enter-requires-clause-finishes c).After-position-place).known

pub returns-in_err-enter-clause-refusal : goal.returns-in_err-enter-clause-refusal
returns-in_err-enter-clause-refusal c =
    let centre = whole (goal.at.returns-in_err-enter-clause-refusal c).After-prepare_edit in
    refuses_starved c.args.self.now.known (event.Edit c.args.edit) c.from_residual-in_err-enter.result c.from_residual-in_err-enter.ensures.1 c.requires.whole (rw (← c.self.view_is) (c.in_ok-reached.ensures.accepted centre))

pub returns-in_err-enter-clause-lines : goal.returns-in_err-enter-clause-lines
returns-in_err-enter-clause-lines c = rw (← c.self.view_is) (lines_most c.self.inside.base.begun _ _ _ (lines (goal.at.returns-in_err-enter-clause-lines c).After-enter))

pub invariant_of-self-in_err-enter : goal.invariant_of-self-in_err-enter
invariant_of-self-in_err-enter c =
    centre_stale c.self.invariant (c.enter.ensures.folded ∙ c.prepare_edit.ensures.folded) (c.in_err-enter.ensures.entries_stay ∙ c.prepare_edit.ensures.entries)

pub returns-in_err-enter-clause-left : goal.returns-in_err-enter-clause-left
returns-in_err-enter-clause-left c =
    rw (← c.self.view_is) (leaves_stale c.self.inside.settings c.self.inside.stale c.from_residual-in_err-enter.result c.from_residual-in_err-enter.ensures.1 (c.enter.ensures.folded ∙ c.prepare_edit.ensures.folded) (c.in_err-enter.ensures.entries_stay ∙ c.prepare_edit.ensures.entries))

pub invariant_of-self-2 : goal.invariant_of-self-2
invariant_of-self-2 c =
    centre_entered c.self.invariant c.in_ok-reached.ensures.few c.in_ok-reached.ensures.number (c.enter.ensures.folded ∙ c.prepare_edit.ensures.folded) (c.in_ok-enter.ensures.entry ∙ ap (λ js. js ++ c.in_ok-entry.entry ∷ []) c.prepare_edit.ensures.entries)
    (entry_accepted c.self.inside.settings (past_over c.self.inside.journal.folded c.self.inside.journal.entries) (given (goal.at.invariant_of-self-2 c).In_ok-answer) c.in_ok-entry.ensures.entry)
    (kept_entered (enters (goal.at.invariant_of-self-2 c).After-position-place) c.in_ok-enter.ensures.kept)

pub returns-clause-answer : goal.returns-clause-answer
returns-clause-answer c = rw (← c.self.view_is, c.in_ok-entry.ensures.answer) (given (goal.at.returns-clause-answer c).In_ok-answer)

pub returns-clause-lines : goal.returns-clause-lines
returns-clause-lines c = rw (← c.self.view_is) (lines_most c.self.inside.base.begun _ _ _ (lines (goal.at.returns-clause-lines c).After-enter))

pub returns-in_err-reached-clause-least : goal.returns-in_err-reached-clause-least
returns-in_err-reached-clause-least c = rw (← c.self.view_is) (lines_least c.self.inside.base.begun _ _ c.prepare_edit.ensures.reads.tables.meter)

pub returns-in_err-answer-clause-least : goal.returns-in_err-answer-clause-least
returns-in_err-answer-clause-least c = rw (← c.self.view_is, c.in_err-answer.ensures.unchanged) (lines_least c.self.inside.base.begun _ _ c.prepare_edit.ensures.reads.tables.meter)

pub returns-in_err-enter-clause-least : goal.returns-in_err-enter-clause-least
returns-in_err-enter-clause-least c = rw (← c.self.view_is) (lines_least c.self.inside.base.begun _ _ (risen (goal.at.returns-in_err-enter-clause-least c).After-enter))

pub returns-clause-least : goal.returns-clause-least
returns-clause-least c = rw (← c.self.view_is) (lines_least c.self.inside.base.begun _ _ (risen (goal.at.returns-clause-least c).After-enter))
