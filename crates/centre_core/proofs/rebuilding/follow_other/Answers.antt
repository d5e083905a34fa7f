use Rattle.centre_past.proofs.ReadLemmas.{reads_none}
use Rattle.centre_core.proofs.MeterLemmas.{other_metered}
use Rattle.centre_core.proofs.RebuildLemmas.{other_finishes, other_followed}
use Rattle.centre_core.proofs.rebuilding.follow_other.Goals as goal

pub finish-requires : goal.finish-requires
finish-requires c =
    other_finishes c.args.kept.now c.args.kept.now c.args.entry.now c.args.place c.up_before-up.result c.in_ok-reached.reached.spots.items c.in_ok-reached.reached.lines c.requires.follows c.requires.other (reads_none c.args.kept.now) c.up_before-up.ensures
    c.in_ok-reached.ensures.reached

pub returns-clause-kept : goal.returns-clause-kept
returns-clause-kept c =
    other_followed c.args.kept.now c.args.kept.now c.finish.new.kept c.args.entry.now c.args.place c.up_before-up.result c.in_ok-reached.reached.spots.items c.in_ok-reached.reached.lines c.finish.result c.requires.other (reads_none c.args.kept.now) c.up_before-up.ensures
    c.in_ok-reached.ensures.reached c.finish.ensures.kept

pub returns-clause-meter : goal.returns-clause-meter
returns-clause-meter c =
    other_metered c.args.kept.now c.finish.new.kept c.args.entry.now c.args.place c.in_ok-reached.reached.spots.items c.in_ok-reached.reached.lines c.finish.result c.in_ok-reached.ensures.reached c.finish.ensures.meter
