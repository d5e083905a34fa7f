use Rattle.std.proofs.Common.{◌≤◌, ◌+◌, ◌*◌, ◌∙◌, ◌++◌, ◌∷◌, [], Err, refl, sym, ap, subst, arith}
use Rattle.std.specs.Prelude.{IsOk}
use Rattle.centre_core.specs.Centre.{IsWhole, past_over}
use Rattle.centre_events.specs.Past.{past_of}
use Rattle.centre_events.specs.Verdict.{verdict}
use Rattle.centre_events.specs.declared.entry.Entry.{Entry}
use Rattle.centre_lines.specs.Following.{most_accesses}
use Rattle.centre_past.specs.Reach.{reach}
use Rattle.centre_past.proofs.ReadLemmas.{reads_kept}
use Rattle.centre_core.proofs.CentreLemmas.{Enters, centre_after, centre_entered, centre_stale, whole_centre, entry_accepted, kept_entered, leaves_stale, lines_then, not_stale, other_enters, refuses, refuses_starved, within_four}
use Rattle.centre_core.proofs.MeterLemmas.{lines_least, lines_most}
use Rattle.centre_core.proofs.centre.Centre.accept_other.Goals.{After-enter, After-position-place, After-prepare_other}
use Rattle.centre_core.proofs.centre.Centre.accept_other.Goals as goal

-- the centre is whole before the event
whole : (c : After-prepare_other) → IsWhole c.self.inside.settings.network c.self.inside.journal.folded c.self.inside.journal.entries c.self.inside.kept
whole c = whole_centre c.self.invariant (not_stale c.self.view_is c.requires.whole)

-- the lines that were read before it is entered
looked : (c : After-prepare_other) → c.prepare_other.new.kept.tables.lines.meter ≤ c.self.inside.kept.tables.lines.meter + 4 * reach (past_over c.self.inside.journal.folded c.self.inside.journal.entries) c.args.event (verdict c.self.inside.settings (past_over c.self.inside.journal.folded c.self.inside.journal.entries) c.args.event)
looked c = within_four c.self.inside.settings c.self.inside.journal.folded c.self.inside.journal.entries c.args.event c.self.inside.kept.tables.lines.meter c.prepare_other.new.kept.tables.lines.meter (c.prepare_other.ensures.meter (whole c))

-- it is entered after all entries
enters : (c : After-position-place) → Enters c.prepare_other.new.kept c.in_ok-entry.entry (past_of (c.self.inside.journal.folded ++ c.self.inside.journal.entries)) (c.position-place.result + 1) c.up_before-up.result c.in-Ok.found.reached.spots.items c.in-Ok.found.reached.lines
enters c =
    let centre = whole (goal.at.After-position-place c).After-prepare_other in
    other_enters c.self.inside.settings centre c.in-Ok.ensures.number c.prepare_other.ensures.folded c.prepare_other.ensures.entries c.position-place.ensures.value c.prepare_other.ensures.reads (c.in-Ok.ensures.verdict centre) c.requires.other c.in_ok-entry.ensures.entry c.up_before-up.ensures (c.in-Ok.ensures.reached centre)

-- the lines that were read or set by then
lines : (c : After-enter) → c.enter.new.kept.tables.lines.meter ≤ c.self.inside.kept.tables.lines.meter + 4 * reach (past_over c.self.inside.journal.folded c.self.inside.journal.entries) c.args.event (verdict c.self.inside.settings (past_over c.self.inside.journal.folded c.self.inside.journal.entries) c.args.event)
lines c =
    let centre = whole (goal.at.After-enter c).After-prepare_other in
    lines_then c.self.inside.settings c.self.inside.journal.folded c.self.inside.journal.entries c.args.event c.in-Ok.found.answer c.prepare_other.new.kept.plan.book c.self.inside.kept.tables.lines.meter c.prepare_other.new.kept.tables.lines.meter c.enter.new.kept.tables.lines.meter c.in-Ok.found.reached.spots.items c.in-Ok.found.reached.lines (c.in-Ok.ensures.verdict centre)
    (reads_kept (past_of (c.self.inside.journal.folded ++ c.self.inside.journal.entries)) c.self.inside.kept c.prepare_other.new.kept centre.kept c.prepare_other.ensures.reads).booked
    (c.prepare_other.ensures.meter centre)
    (subst (λ (y : Entry). c.enter.new.kept.tables.lines.meter ≤ c.prepare_other.new.kept.tables.lines.meter + most_accesses y.event y.answer c.prepare_other.new.kept.plan.book c.in-Ok.found.reached.spots.items c.in-Ok.found.reached.lines) c.in_ok-entry.ensures.entry c.enter.ensures.meter) (c.in-Ok.ensures.reached centre)

-- and they are no fewer than before
risen : (c : After-enter) → c.self.inside.kept.tables.lines.meter ≤ c.enter.new.kept.tables.lines.meter
risen c = omega (arith, c.prepare_other.ensures.reads.tables.meter, c.enter.ensures.least)

pub invariant_of-self : goal.invariant_of-self
invariant_of-self c = centre_after c.self.invariant c.prepare_other.ensures.folded c.prepare_other.ensures.entries c.prepare_other.ensures.reads

pub returns-in-Err-clause-refusal : goal.returns-in-Err-clause-refusal
returns-in-Err-clause-refusal c =
    let centre = whole (goal.at.returns-in-Err-clause-refusal c).After-prepare_other in
    refuses c.args.self.now.known c.args.event (Err c.in-Err.refusal) c.in-Err.refusal refl c.requires.whole (rw (← c.self.view_is) (c.in-Err.ensures.refusal centre))

pub returns-in-Err-clause-lines : goal.returns-in-Err-clause-lines
returns-in-Err-clause-lines c = rw (← c.self.view_is) (lines_most c.self.inside.base.begun _ _ _ (looked (goal.at.returns-in-Err-clause-lines c).After-prepare_other))

pub invariant_of-self-in_err-entry : goal.invariant_of-self-in_err-entry
invariant_of-self-in_err-entry c = centre_after c.self.invariant c.prepare_other.ensures.folded c.prepare_other.ensures.entries c.prepare_other.ensures.reads

pub returns-in_err-entry-clause-lines : goal.returns-in_err-entry-clause-lines
returns-in_err-entry-clause-lines c = rw (← c.self.view_is) (lines_most c.self.inside.base.begun _ _ _ (looked (goal.at.returns-in_err-entry-clause-lines c).After-prepare_other))

pub enter-requires-clause-finishes : goal.enter-requires-clause-finishes
enter-requires-clause-finishes c = (enters (goal.at.enter-requires-clause-finishes c).After-position-place).known

pub returns-in_err-enter-clause-lines : goal.returns-in_err-enter-clause-lines
returns-in_err-enter-clause-lines c = rw (← c.self.view_is) (lines_most c.self.inside.base.begun _ _ _ (lines (goal.at.returns-in_err-enter-clause-lines c).After-enter))

pub invariant_of-self-in_err-enter : goal.invariant_of-self-in_err-enter
invariant_of-self-in_err-enter c =
    centre_stale c.self.invariant (c.enter.ensures.folded ∙ c.prepare_other.ensures.folded) (c.in_err-enter.ensures.entries_stay ∙ c.prepare_other.ensures.entries)

pub returns-in_err-enter-clause-refusal : goal.returns-in_err-enter-clause-refusal
returns-in_err-enter-clause-refusal c =
    let centre = whole (goal.at.returns-in_err-enter-clause-refusal c).After-prepare_other in
    refuses_starved c.args.self.now.known c.args.event c.from_residual-in_err-enter.result c.from_residual-in_err-enter.ensures.1 c.requires.whole (rw (← c.self.view_is) (subst IsOk (sym (c.in-Ok.ensures.verdict centre)) refl))

pub returns-in_err-enter-clause-left : goal.returns-in_err-enter-clause-left
returns-in_err-enter-clause-left c =
    rw (← c.self.view_is) (leaves_stale c.self.inside.settings c.self.inside.stale c.from_residual-in_err-enter.result c.from_residual-in_err-enter.ensures.1 (c.enter.ensures.folded ∙ c.prepare_other.ensures.folded) (c.in_err-enter.ensures.entries_stay ∙ c.prepare_other.ensures.entries))

pub invariant_of-self-2 : goal.invariant_of-self-2
invariant_of-self-2 c =
    let centre = whole (goal.at.invariant_of-self-2 c).After-prepare_other in
    centre_entered c.self.invariant c.in-Ok.ensures.few c.in-Ok.ensures.number (c.enter.ensures.folded ∙ c.prepare_other.ensures.folded) (c.in_ok-enter.ensures.entry ∙ ap (λ js. js ++ c.in_ok-entry.entry ∷ []) c.prepare_other.ensures.entries)
    (entry_accepted c.self.inside.settings (past_over c.self.inside.journal.folded c.self.inside.journal.entries) (c.in-Ok.ensures.verdict centre) c.in_ok-entry.ensures.entry)
    (kept_entered (enters (goal.at.invariant_of-self-2 c).After-position-place) c.in_ok-enter.ensures.kept)

pub returns-clause-lines : goal.returns-clause-lines
returns-clause-lines c = rw (← c.self.view_is) (lines_most c.self.inside.base.begun _ _ _ (lines (goal.at.returns-clause-lines c).After-enter))

pub returns-in-Err-clause-least : goal.returns-in-Err-clause-least
returns-in-Err-clause-least c = rw (← c.self.view_is) (lines_least c.self.inside.base.begun _ _ c.prepare_other.ensures.reads.tables.meter)

pub returns-in_err-entry-clause-least : goal.returns-in_err-entry-clause-least
returns-in_err-entry-clause-least c = rw (← c.self.view_is) (lines_least c.self.inside.base.begun _ _ c.prepare_other.ensures.reads.tables.meter)

pub returns-in_err-enter-clause-least : goal.returns-in_err-enter-clause-least
returns-in_err-enter-clause-least c = rw (← c.self.view_is) (lines_least c.self.inside.base.begun _ _ (risen (goal.at.returns-in_err-enter-clause-least c).After-enter))

pub returns-clause-least : goal.returns-clause-least
returns-clause-least c = rw (← c.self.view_is) (lines_least c.self.inside.base.begun _ _ (risen (goal.at.returns-clause-least c).After-enter))
