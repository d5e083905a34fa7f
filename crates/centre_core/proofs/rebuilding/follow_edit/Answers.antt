use Rattle.centre_core.proofs.MeterLemmas.{edit_metered}
use Rattle.centre_core.proofs.RebuildLemmas.{edit_finishes, edit_followed}
use Rattle.centre_core.proofs.rebuilding.follow_edit.Goals as goal

pub finish-requires : goal.finish-requires
finish-requires c =
    edit_finishes c.args.kept.now c.reached_by_edit.new.kept c.make_again.new.kept c.args.entry.now c.args.edit.now c.args.place c.in_ok-reached.reached.spots.items c.in_ok-reached.reached.lines c.requires.follows c.requires.edit c.reached_by_edit.ensures.reads c.in_ok-make_again.ensures.made c.in_ok-reached.ensures.reached

pub returns-clause-kept : goal.returns-clause-kept
returns-clause-kept c =
    edit_followed c.args.kept.now c.reached_by_edit.new.kept c.make_again.new.kept c.finish.new.kept c.args.entry.now c.args.edit.now c.args.place c.in_ok-reached.reached.spots.items c.in_ok-reached.reached.lines c.finish.result c.requires.edit c.reached_by_edit.ensures.reads c.in_ok-make_again.ensures.made c.in_ok-reached.ensures.reached c.finish.ensures.kept

pub returns-clause-meter : goal.returns-clause-meter
returns-clause-meter c =
    edit_metered c.args.kept.now c.reached_by_edit.new.kept c.make_again.new.kept c.finish.new.kept c.args.entry.now c.args.edit.now c.args.place c.in_ok-reached.reached.spots.items c.in_ok-reached.reached.lines c.finish.result c.requires.edit c.in_ok-make_again.ensures.made c.in_ok-reached.ensures.reached c.reached_by_edit.ensures.meter c.finish.ensures.meter
