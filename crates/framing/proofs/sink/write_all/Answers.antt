use Rattle.std.proofs.Common.{◌<◌, length, sym, ◌∙◌, arith}
use Rattle.std.proofs.lemmas.Bool.{eqb-false, ne_eqb}
use Rattle.std.proofs.lemmas.Result.{err_from_is_err_and}
use Rattle.framing.proofs.SinkLemmas.{WrittenSoFar-more, WrittenSoFar-refused, WrittenSoFar-none_taken}
use Rattle.framing.proofs.sink.write_all.Goals as goal

-- the write was refused, so what was written before it is there
pub returns-in_err-count-clause-part : goal.returns-in_err-count-clause-part
returns-in_err-count-clause-part g c =
    let p = err_from_is_err_and c.from_residual.result c.from_residual.ensures.1 in
    let some : 0 < length c.loop-rest.rest.now = omega (arith, eqb-false _ _ (sym c.is_empty.ensures ∙ c.loop-rest-test.true)) in
    rw p.1 (WrittenSoFar-refused _ _ _ _ _ c.loop-rest.invariant.so_far some c.in_err-count.ensures.octets)

-- the write took none
pub returns-then-count-eq0-clause-part : goal.returns-then-count-eq0-clause-part
returns-then-count-eq0-clause-part g c =
    let some : 0 < length c.loop-rest.rest.now = omega (arith, eqb-false _ _ (sym c.is_empty.ensures ∙ c.loop-rest-test.true)) in
    WrittenSoFar-none_taken _ _ _ _ _ _ c.loop-rest.invariant.so_far some c.in_ok-count.ensures.octets c.if-count-eq0.true

-- what the write took is gone from the rest
pub loop-rest-preserved : goal.loop-rest-preserved
loop-rest-preserved g c = record {
  so_far = rw c.split_at.ensures.back (WrittenSoFar-more _ _ _ _ _ _ c.loop-rest.invariant.so_far c.in_ok-count.ensures.octets);
  fine = rw (ne_eqb _ _ c.if-count-eq0.false) at c.in_ok-count.ensures.failures ∙ c.loop-rest.invariant.fine;
}
