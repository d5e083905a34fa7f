use Rattle.std.proofs.Common.{◌-◌, drop, take, length, sym, ◌∙◌, arith}
use Rattle.cbsp_ie.proofs.FailureListLemmas.{found_failure}
use Rattle.cbsp_ie.proofs.NumberLemmas.{IsBytes, IsBytes-drop, after_first}
use Rattle.cbsp_ie.proofs.failure_list.read_failure.Goals as goal

pub returns-clause-found : goal.returns-clause-found
returns-clause-found c =
    let octets = c.args.octets.now in
    let bytes : IsBytes (take (length octets - 1) (drop 1 octets)) = rw (after_first octets) (IsBytes-drop 1 octets (λ i. omega (arith, c.type_inv.octets i))) in
    rw c.read.ensures
    (found_failure octets (take (length octets - 1) (drop 1 octets)) c.in-Some.form c.size-size.result (omega arith) (after_first octets)
    (sym c.from_discriminator.ensures ∙ c.in-Some.is) c.size-size.ensures c.if-after-size.false bytes)
