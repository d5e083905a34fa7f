use Rattle.std.proofs.Common.{◌<◌, length, sym, ◌∙◌, inr, arith}
use Rattle.std.proofs.lemmas.Bool.{eqb-false}
use Rattle.std.proofs.lemmas.Result.{err_from_is_err_and}
use Rattle.cbsp_messages.proofs.ReadingLemmas.{Takes-start, Takes-more, Takes-fault, Takes-refused}
use Rattle.cbsp_messages.proofs.reading.read_elements.Goals as goal

pub loop-rest-init : goal.loop-rest-init
loop-rest-init c = rw c.new-elements.ensures (Takes-start c.args.body.now)

pub returns-in_err-element-clause-fault : goal.returns-in_err-element-clause-fault
returns-in_err-element-clause-fault c =
    let some : 0 < length c.loop-rest.rest.now = omega (arith, eqb-false _ _ (sym c.is_empty.ensures ∙ c.loop-rest-test.true)) in
    let p = err_from_is_err_and c.from_residual.result c.from_residual.ensures.1 in
    rw (p.1, p.2) (inr (Takes-fault _ _ _ _ c.loop-rest.invariant some c.in_err-element.ensures.fault))

pub returns-in_err-put-clause-fault : goal.returns-in_err-put-clause-fault
returns-in_err-put-clause-fault c =
    let some : 0 < length c.loop-rest.rest.now = omega (arith, eqb-false _ _ (sym c.is_empty.ensures ∙ c.loop-rest-test.true)) in
    let p = err_from_is_err_and c.from_residual-in_err-put.result c.from_residual-in_err-put.ensures.1 in
    rw (p.1, p.2) (Takes-refused _ _ _ _ _ _ c.loop-rest.invariant some c.in_ok-element.ensures.found c.in_err-put.ensures.err)

pub loop-rest-preserved : goal.loop-rest-preserved
loop-rest-preserved c =
    rw (c.split_at.ensures.back, c.in_ok-put.ensures.ok) (Takes-more _ _ _ _ _ c.loop-rest.invariant c.in_ok-element.ensures.found c.in_ok-put.ensures.fresh)
