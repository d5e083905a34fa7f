use Rattle.std.proofs.Common.{[], ◌∙◌, ap}
use Rattle.std.specs.List.{flat_map}
use Rattle.std.proofs.lemmas.List.{take_all}
use Rattle.centre_past.specs.Table.{keys_of}
use Rattle.centre_past.proofs.ReadLemmas.{added_more}
use Rattle.centre_answers.proofs.TableLemmas.{in_book}
use Rattle.centre_answers.proofs.questions.keys_among.Goals as goal

pub loop-warning-preserved : goal.loop-warning-preserved
loop-warning-preserved c = (
  λ t same. c.in_ok-add_keys_of.ensures.kept t (c.loop-warning.invariant.0 t same),
  λ past t tells same all.
      added_more (keys_of past c.args.b c.args.cells.now) c.args.warnings.now c.loop-warning.warning-index c.warning-item.result c.warning-item.result [] c.loop-warning.out.items c.add_keys_of.new.out.items c.loop-warning-test.true c.warning-item.is (c.loop-warning.invariant.1 past t tells same all) (c.in_ok-add_keys_of.ensures.keys past t tells (c.loop-warning.invariant.0 t same) (in_book past t tells c.args.warnings.now all c.loop-warning.warning-index c.warning-item.result c.loop-warning-test.true c.warning-item.is)),
)

pub returns-clause-keys : goal.returns-clause-keys
returns-clause-keys c = λ past t tells same all.
    c.loop-warning.invariant.1 past t tells same all
    ∙ ap (flat_map (keys_of past c.args.b c.args.cells.now)) (take_all c.loop-warning.warning-index c.args.warnings.now c.loop-warning-test.false ∙ all)
