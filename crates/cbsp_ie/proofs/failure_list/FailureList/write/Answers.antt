use Rattle.std.proofs.Common.{sym, ◌∙◌, eqb-true}
use Rattle.cbsp_ie.proofs.FailureListLemmas.{Appended-end, Appended-more, Appended-start, is_read}
use Rattle.cbsp_ie.proofs.ListLemmas.{on_err, take_shorter}
use Rattle.cbsp_ie.proofs.failure_list.FailureList.write.Goals as goal

pub loop-rest-init : goal.loop-rest-init
loop-rest-init c = Appended-start c.args.self.now c.args.out.now.items c.self.inside.octets.now (rw (← c.self.view_is) c.self.invariant.1)

pub unwrap-used-requires : goal.unwrap-used-requires
unwrap-used-requires c =
    is_read c.read_failure.result c.loop-rest.rest.now c.loop-rest.invariant.copied.left c.loop-rest.invariant.copied.good c.read_failure.ensures.fault

pub returns-in_err-write-clause-err : goal.returns-in_err-write-clause-err
returns-in_err-write-clause-err c =
    on_err c.from_residual.result
    (take_shorter c.write.new.out.items c.args.out.now.items _ (rw c.loop-rest.invariant.is at c.in_err-write.ensures.err))

pub loop-rest-preserved : goal.loop-rest-preserved
loop-rest-preserved c =
    rw (c.in_ok-write.ensures.ok, c.split_at.ensures.back)
    (Appended-more _ _ _ _ c.unwrap-used.result.1 c.unwrap-used.result.0 c.loop-rest.invariant (rw c.unwrap-used.ensures at c.read_failure.ensures.found))

pub returns-clause-ok : goal.returns-clause-ok
returns-clause-ok c = Appended-end _ _ _ _ c.loop-rest.invariant (eqb-true _ _ (sym c.is_empty.ensures ∙ c.loop-rest-test.false))
