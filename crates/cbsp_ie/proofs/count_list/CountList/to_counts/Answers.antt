use Rattle.std.proofs.Common.{refl, sym, ◌∙◌}
use Rattle.cbsp_ie.proofs.ListLemmas.{take_one_more}
use Rattle.cbsp_ie.proofs.count_list.CountList.to_counts.Goals as goal

pub loop-index-preserved : goal.loop-index-preserved
loop-index-preserved c =
    let more = take_one_more c.args.self.now.entries c.loop-index.index c.unwrap.result (sym c.get.ensures.value ∙ c.unwrap.ensures) in
    c.in_ok-push.ensures.ok ∙ rw (c.loop-index.invariant, more) refl
