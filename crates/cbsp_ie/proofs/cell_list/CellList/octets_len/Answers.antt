use Rattle.std.proofs.Common.{arith}
use Rattle.cbsp_ie.specs.CellList.{ids_at}
use Rattle.cbsp_ie.proofs.CellListLemmas.{length-flat_map-any, length-ids_at}
use Rattle.cbsp_ie.proofs.cell_list.CellList.octets_len.Goals as goal

pub returns : goal.returns
returns c =
    let s = c.self.inside in
    let octets = length-flat_map-any s.form (ids_at s.form s.count s.octets.now) c.self.invariant.1 in
    let count = length-ids_at s.form s.count s.octets.now in
    let whole = c.self.invariant.0 in
    rw (← c.self.view_is, octets, count) (omega (arith, whole))
