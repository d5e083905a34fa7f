use Rattle.std.proofs.Common.{◌≡◌, get_or, set, rules}
use Rattle.order_maker.specs.ByBsc.{AreByBsc}
use Rattle.order_maker.proofs.ByBscLemmas.{by_bsc_set, found_bsc, taken_there}
use Rattle.order_maker.proofs.by_bsc.take_out_at.Goals as goal

pub returns-clause-by_bsc : goal.returns-clause-by_bsc
returns-clause-by_bsc c =
    let e = c.index_mut-held.result.now in
    let there : get_or c.args.bscs.now.items c.args.place e ≡ e = search rules in
    by_bsc_set c.args.bscs.now.items c.args.place e c.take_out.new.self c.requires.by_bsc c.requires.there there c.take_out.ensures.bsc c.take_out.ensures.own

pub returns-clause-out : goal.returns-clause-out
returns-clause-out c =
    let e = c.index_mut-held.result.now in
    let there : get_or c.args.bscs.now.items c.args.place e ≡ e = search rules in
    let next : AreByBsc (set c.args.bscs.now.items c.args.place c.take_out.new.self) = by_bsc_set c.args.bscs.now.items c.args.place e c.take_out.new.self c.requires.by_bsc c.requires.there there c.take_out.ensures.bsc c.take_out.ensures.own in
    let own : e.bsc ≡ c.args.b = found_bsc c.args.b c.args.bscs.now.items c.args.place e c.requires.place c.requires.there there in
    taken_there c.args.bscs.now.items c.args.place e c.take_out.new.self c.args.b c.args.a c.requires.by_bsc next c.requires.there there c.take_out.ensures.bsc own c.take_out.ensures.out
