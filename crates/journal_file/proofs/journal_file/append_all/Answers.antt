use Rattle.std.proofs.lemmas.Result.{err_from_is_err_and}
use Rattle.journal_file.proofs.FileLemmas.{PutSoFar-more, PutSoFar-part, PutSoFar-failed}
use Rattle.journal_file.proofs.journal_file.append_all.Goals as goal

-- the append failed, so what was put before it is there
pub returns-in_err-count-clause-part : goal.returns-in_err-count-clause-part
returns-in_err-count-clause-part g c =
    let p = err_from_is_err_and c.from_residual.result c.from_residual.ensures.1 in
    rw p.1 (PutSoFar-failed _ _ _ _ _ c.loop-rest.invariant c.in_err-count.ensures.appended)

-- the append took none
pub returns-then-count-eq0-clause-part : goal.returns-then-count-eq0-clause-part
returns-then-count-eq0-clause-part g c =
    PutSoFar-part _ _ _ _ (PutSoFar-more _ _ _ _ c.loop-rest.rest.now c.in_ok-count.count c.loop-rest.invariant c.in_ok-count.ensures.appended)

-- what the append took is gone from the rest
pub loop-rest-preserved : goal.loop-rest-preserved
loop-rest-preserved g c =
    rw c.split_at.ensures.back (PutSoFar-more _ _ _ _ c.loop-rest.rest.now c.in_ok-count.count c.loop-rest.invariant c.in_ok-count.ensures.appended)
