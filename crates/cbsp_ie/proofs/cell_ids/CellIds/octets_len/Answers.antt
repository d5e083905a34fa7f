use Rattle.std.proofs.Common.{arith}
use Rattle.cbsp_ie.proofs.CellListLemmas.{length-flat_map-any}
use Rattle.cbsp_ie.proofs.cell_ids.CellIds.octets_len.Goals as goal

pub returns : goal.returns
returns c =
    let long = length-flat_map-any c.args.self.now.form c.args.self.now.ids c.ids.ensures.has_form in
    rw (c.ids.ensures.value, c.size.ensures, c.form.ensures) (omega (arith, long))
