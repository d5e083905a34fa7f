use Rattle.std.proofs.Common.{◌++◌, get_or, refl, ◌∙◌, ap}
use Rattle.std.proofs.lemmas.List.{take_all}
use Rattle.centre_past.specs.Table.{keys_in, keys_of}
use Rattle.centre_past.proofs.ReadLemmas.{added_more}
use Rattle.centre_answers.proofs.questions.add_keys_of.Goals as goal

pub loop-cell-preserved : goal.loop-cell-preserved
loop-cell-preserved c = (
  λ t same. c.in_ok-add_keys_in.ensures.kept t (c.loop-cell.invariant.0 t same),
  λ past t tells same found.
      added_more (keys_in past c.args.b c.args.w.now) c.args.cells.now c.loop-cell.cell-index (record { lac = 0; ci = 0 }) (get_or c.args.cells.now c.loop-cell.cell-index (record { lac = 0; ci = 0 })) c.args.out.now.items c.loop-cell.out.items c.add_keys_in.new.out.items c.loop-cell-test.true refl (c.loop-cell.invariant.1 past t tells same found) (c.in_ok-add_keys_in.ensures.keys past t tells (c.loop-cell.invariant.0 t same) found),
)

pub returns-clause-keys : goal.returns-clause-keys
returns-clause-keys c = λ past t tells same found.
    c.loop-cell.invariant.1 past t tells same found
    ∙ ap (λ cs. c.args.out.now.items ++ keys_of past c.args.b cs c.args.w.now) (take_all c.loop-cell.cell-index c.args.cells.now c.loop-cell-test.false)
