use Rattle.std.proofs.Common.{sym, ◌∙◌, take}
use Rattle.cbsp_ie.specs.Written.{count_octets}
use Rattle.cbsp_ie.proofs.ListLemmas.{flat_map_one_more, on_err, take_one_more, take_shorter}
use Rattle.cbsp_ie.proofs.count_list.CountList.write.Goals as goal

pub returns-in_err-write-clause-err : goal.returns-in_err-write-clause-err
returns-in_err-write-clause-err c =
    on_err c.from_residual.result
    (take_shorter c.write.new.out.items c.args.out.now.items _ (rw c.loop-index.invariant at c.in_err-write.ensures.err))

pub loop-index-preserved : goal.loop-index-preserved
loop-index-preserved c =
    let more = take_one_more c.args.self.now.entries c.loop-index.index c.unwrap.result (sym c.get.ensures.value ∙ c.unwrap.ensures) in
    rw (c.in_ok-write.ensures.ok, c.loop-index.invariant, more) (flat_map_one_more count_octets c.args.out.now.items (take c.loop-index.index c.args.self.now.entries) c.unwrap.result)
