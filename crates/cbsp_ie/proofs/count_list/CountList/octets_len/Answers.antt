use Rattle.std.proofs.Common.{arith}
use Rattle.cbsp_ie.specs.CountList.{counts_at}
use Rattle.cbsp_ie.proofs.CountListLemmas.{length-counts_at, length-flat_map-counts}
use Rattle.cbsp_ie.proofs.count_list.CountList.octets_len.Goals as goal

pub returns : goal.returns
returns c =
    let s = c.self.inside in
    let octets = length-flat_map-counts s.form (counts_at s.form s.count s.octets.now) c.self.invariant.1 in
    let count = length-counts_at s.form s.count s.octets.now in
    let whole = c.self.invariant.0 in
    rw (← c.self.view_is, octets, count) (omega (arith, whole))
