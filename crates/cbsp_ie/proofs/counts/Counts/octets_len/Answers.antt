use Rattle.std.proofs.Common.{arith}
use Rattle.cbsp_ie.proofs.CountListLemmas.{length-flat_map-counts}
use Rattle.cbsp_ie.proofs.counts.Counts.octets_len.Goals as goal

pub returns : goal.returns
returns c =
    let long = length-flat_map-counts c.args.self.now.form c.args.self.now.entries c.entries.ensures.has_form in
    rw (c.entries.ensures.value, c.size.ensures, c.form.ensures) (omega (arith, long))
