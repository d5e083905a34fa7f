use Rattle.std.proofs.Common.{refl, ◌∙◌, ap}
use Rattle.coverage_plan.specs.Plan.{State}
use Rattle.centre_lines.specs.Following.{lines_before}
use Rattle.centre_past.specs.Reach.{edit_reach}
use Rattle.centre_past.proofs.ReadLemmas.{as_itself}
use Rattle.centre_lines.proofs.BeforeLemmas.{told_kept, edit_was_reached, reads_as, reads_within}
use Rattle.centre_lines.proofs.IndicatedLemmas.{cover_reached}
use Rattle.centre_lines.proofs.reached.reached_at_spots.Goals as goal

pub returns-in_err-earlier-clause-reads : goal.returns-in_err-earlier-clause-reads
returns-in_err-earlier-clause-reads c =
    record { plan = refl; links = refl; tables = reads_as c.args.kept.now.tables c.read_all.new.tables (c.read_all.ensures.kept c.args.kept.now.tables (as_itself c.args.kept.now.tables)) }

pub returns-clause-reached : goal.returns-clause-reached
returns-clause-reached c =
    λ settings past a legal kept accepted.
    edit_was_reached past c.args.kept.now c.args.edit.now a c.in_ok-reach.reach.spots.items c.in_ok-reach.reach.warnings.items c.in_ok-earlier.earlier.items kept
    (c.in_ok-reach.ensures settings past (record {
      told = rw (c.lines.ensures) (told_kept settings past c.args.kept.now legal kept);
      selected = kept.selected;
      answer = a;
      accepted = accepted;
    }))
    (c.in_ok-earlier.ensures.earlier c.args.kept.now.tables (as_itself c.args.kept.now.tables)
    ∙ ap (λ (p : State). lines_before c.args.edit.now p c.args.kept.now.tables c.as_slice.result.now c.as_slice-2.result.now) c.new-plan.ensures
    ∙ ap (λ ps. lines_before c.args.edit.now c.args.kept.now.plan c.args.kept.now.tables ps c.as_slice-2.result.now) c.as_slice.ensures.value
    ∙ ap (lines_before c.args.edit.now c.args.kept.now.plan c.args.kept.now.tables c.in_ok-reach.reach.spots.items) c.as_slice-2.ensures.value)

pub returns-clause-reads : goal.returns-clause-reads
returns-clause-reads c =
    record { plan = refl; links = refl; tables = reads_as c.args.kept.now.tables c.read_all.new.tables (c.read_all.ensures.kept c.args.kept.now.tables (as_itself c.args.kept.now.tables)) }

pub returns-in_err-earlier-clause-meter : goal.returns-in_err-earlier-clause-meter
returns-in_err-earlier-clause-meter c =
    λ settings past a legal kept accepted.
    let reach = c.in_ok-reach.ensures settings past (record {
      told = rw (c.lines.ensures) (told_kept settings past c.args.kept.now legal kept);
      selected = kept.selected;
      answer = a;
      accepted = accepted;
    }) in
    reads_within c.args.kept.now.tables.lines.meter c.read_all.new.tables.lines.meter c.as_slice.result.now c.in_ok-reach.reach.spots.items c.as_slice-2.result.now c.in_ok-reach.reach.warnings.items (edit_reach past c.args.edit.now) c.as_slice.ensures.value c.as_slice-2.ensures.value
    (c.read_all.ensures.meter (cover_reached past c.args.kept.now kept c.args.edit.now c.in_ok-reach.reach.spots.items c.in_ok-reach.reach.warnings.items c.as_slice-2.result.now c.as_slice-2.ensures.value reach))
    reach

pub returns-clause-meter : goal.returns-clause-meter
returns-clause-meter c =
    λ settings past a legal kept accepted.
    let reach = c.in_ok-reach.ensures settings past (record {
      told = rw (c.lines.ensures) (told_kept settings past c.args.kept.now legal kept);
      selected = kept.selected;
      answer = a;
      accepted = accepted;
    }) in
    reads_within c.args.kept.now.tables.lines.meter c.read_all.new.tables.lines.meter c.as_slice.result.now c.in_ok-reach.reach.spots.items c.as_slice-2.result.now c.in_ok-reach.reach.warnings.items (edit_reach past c.args.edit.now) c.as_slice.ensures.value c.as_slice-2.ensures.value
    (c.read_all.ensures.meter (cover_reached past c.args.kept.now kept c.args.edit.now c.in_ok-reach.reach.spots.items c.in_ok-reach.reach.warnings.items c.as_slice-2.result.now c.as_slice-2.ensures.value reach))
    reach
