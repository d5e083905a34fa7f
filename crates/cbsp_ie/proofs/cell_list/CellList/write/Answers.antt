use Rattle.std.proofs.Common.{sym, ◌∙◌, take}
use Rattle.cbsp_ie.specs.CellId.{id_octets}
use Rattle.cbsp_ie.proofs.ListLemmas.{flat_map_one_more, take_one_more}
use Rattle.cbsp_ie.proofs.cell_list.CellList.write.Goals as goal

pub loop-index-preserved : goal.loop-index-preserved
loop-index-preserved c =
    let more = take_one_more c.args.self.now.ids c.loop-index.index c.unwrap.result (sym c.get.ensures.value ∙ c.unwrap.ensures) in
    rw (c.in_ok-write.ensures.ok, c.loop-index.invariant, more) (flat_map_one_more id_octets c.args.out.now.items (take c.loop-index.index c.args.self.now.ids) c.unwrap.result)
