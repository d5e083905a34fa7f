use Rattle.std.proofs.Common.{arith}
use Rattle.cbsp_ie.proofs.ElementLemmas.{element_found}
use Rattle.cbsp_ie.proofs.NumberLemmas.{after_first}
use Rattle.cbsp_ie.proofs.reading.element_at.Goals as goal

pub returns-in_ok-element-in-Ok-clause-found : goal.returns-in_ok-element-in-Ok-clause-found
returns-in_ok-element-in-Ok-clause-found c =
    let e = c.in_ok-element-in-Ok.ensures in
    element_found c.args.octets.now _ c.in-Ok.id c.in_ok-element-in-Ok.element c.in_ok-element-in-Ok.size (omega arith) (after_first c.args.octets.now) c.in-Ok.ensures e.id e.found
