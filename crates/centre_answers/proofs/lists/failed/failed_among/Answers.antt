use Rattle.std.proofs.Common.{[], get_or, refl, sym, ◌∙◌, ap}
use Rattle.std.specs.List.{flat_map}
use Rattle.std.proofs.lemmas.List.{take_all}
use Rattle.centre_past.proofs.ReadLemmas.{added_more}
use Rattle.centre_past.specs.Lists.{failed_in}
use Rattle.centre_answers.proofs.lists.failed.failed_among.Goals as goal

pub loop-cell-preserved : goal.loop-cell-preserved
loop-cell-preserved c = (
  λ t same. c.in_ok-add_failed.ensures.kept t (c.loop-cell.invariant.0 t same),
  λ past t tells downs registered same wants.
      added_more (failed_in past c.args.wanted.now.warning.now) c.args.cells.now c.loop-cell.cell-index (record { lac = 0; ci = 0 }) (get_or c.args.cells.now c.loop-cell.cell-index (record { lac = 0; ci = 0 })) [] c.loop-cell.out.items c.add_failed.new.out.items c.loop-cell-test.true refl (c.loop-cell.invariant.1 past t tells downs registered same wants)
      (c.in_ok-add_failed.ensures.row past t tells downs (c.loop-cell.invariant.0 t same) wants (sym (registered.places (get_or c.args.cells.now c.loop-cell.cell-index (record { lac = 0; ci = 0 }))) ∙ sym c.bsc_near-at.ensures)),
)

pub returns-clause-rows : goal.returns-clause-rows
returns-clause-rows c = λ past t tells downs registered same wants.
    c.loop-cell.invariant.1 past t tells downs registered same wants
    ∙ ap (flat_map (failed_in past c.args.wanted.now.warning.now)) (take_all c.loop-cell.cell-index c.args.cells.now c.loop-cell-test.false)
