use Rattle.std.proofs.Common.{◌≤◌, length, sym}
use Rattle.std.proofs.lemmas.Option.{slice_get_past}
use Rattle.cbsp_ie.specs.CellList.{ids_at}
use Rattle.cbsp_ie.proofs.CellListLemmas.{length-ids_at, slice_get-ids_at}
use Rattle.cbsp_ie.proofs.cell_list.CellList.get.Goals as goal

pub returns-then-index-self-clause-value : goal.returns-then-index-self-clause-value
returns-then-index-self-clause-value c =
    let s = c.self.inside in
    let past : length (ids_at s.form s.count s.octets.now) ≤ c.args.index = rw (length-ids_at s.form s.count s.octets.now) c.if-index-self.true in
    rw (← c.self.view_is) (sym (slice_get_past (ids_at s.form s.count s.octets.now) c.args.index past))

pub returns-clause-value : goal.returns-clause-value
returns-clause-value c =
    let s = c.self.inside in
    rw (← c.self.view_is) (rw (c.read.ensures, c.split_at.ensures.back, c.size.ensures) (sym (slice_get-ids_at s.form s.count s.octets.now c.args.index c.if-index-self.false)))
