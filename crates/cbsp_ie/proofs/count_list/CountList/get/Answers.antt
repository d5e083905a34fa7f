use Rattle.std.proofs.Common.{◌≤◌, length, sym}
use Rattle.std.proofs.lemmas.Option.{slice_get_past}
use Rattle.cbsp_ie.specs.CountList.{counts_at}
use Rattle.cbsp_ie.proofs.CountListLemmas.{length-counts_at, slice_get-counts_at}
use Rattle.cbsp_ie.proofs.count_list.CountList.get.Goals as goal

pub returns-then-index-self-clause-value : goal.returns-then-index-self-clause-value
returns-then-index-self-clause-value c =
    let s = c.self.inside in
    let past : length (counts_at s.form s.count s.octets.now) ≤ c.args.index = rw (length-counts_at s.form s.count s.octets.now) c.if-index-self.true in
    rw (← c.self.view_is) (sym (slice_get_past (counts_at s.form s.count s.octets.now) c.args.index past))

pub returns-clause-value : goal.returns-clause-value
returns-clause-value c =
    let s = c.self.inside in
    rw (← c.self.view_is)
    (rw (c.read.ensures, c.read_u16.ensures, c.split_at-2.ensures.back, c.split_at.ensures.back, c.size-size.ensures)
    (sym (slice_get-counts_at s.form s.count s.octets.now c.args.index c.if-index-self.false)))
