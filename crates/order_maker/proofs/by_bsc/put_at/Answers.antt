use Rattle.std.proofs.Common.{◌≡◌, get_or, set, rules}
use Rattle.std.proofs.lemmas.Result.{on_ok_weaker}
use Rattle.order_maker.specs.ByBsc.{AreByBsc}
use Rattle.order_maker.proofs.ByBscLemmas.{by_bsc_set, found_bsc, put_there}
use Rattle.order_maker.proofs.by_bsc.put_at.Goals as goal

pub returns-clause-by_bsc : goal.returns-clause-by_bsc
returns-clause-by_bsc c =
    let e = c.index_mut-held.result.now in
    let there : get_or c.args.bscs.now.items c.args.place e ≡ e = search rules in
    by_bsc_set c.args.bscs.now.items c.args.place e c.put.new.self c.requires.by_bsc c.requires.there there c.put.ensures.bsc c.put.ensures.own

pub returns-clause-put : goal.returns-clause-put
returns-clause-put c =
    let e = c.index_mut-held.result.now in
    let there : get_or c.args.bscs.now.items c.args.place e ≡ e = search rules in
    let next : AreByBsc (set c.args.bscs.now.items c.args.place c.put.new.self) = by_bsc_set c.args.bscs.now.items c.args.place e c.put.new.self c.requires.by_bsc c.requires.there there c.put.ensures.bsc c.put.ensures.own in
    let own : e.bsc ≡ c.args.b = found_bsc c.args.b c.args.bscs.now.items c.args.place e c.requires.place c.requires.there there in
    on_ok_weaker c.put.result (λ put. put_there c.args.bscs.now.items c.args.place e c.put.new.self c.args.b c.args.a c.requires.by_bsc next c.requires.there there c.put.ensures.bsc own put) c.put.ensures.put
