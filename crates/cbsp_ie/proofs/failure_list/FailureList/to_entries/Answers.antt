use Rattle.std.proofs.Common.{refl, eqb-true, sym, ◌∙◌}
use Rattle.cbsp_ie.proofs.FailureListLemmas.{Copied-end, Copied-more, is_read}
use Rattle.cbsp_ie.proofs.failure_list.FailureList.to_entries.Goals as goal

pub loop-rest-init : goal.loop-rest-init
loop-rest-init c =
    record { left = c.args.self.now; parts = rw c.in_ok-failures.ensures refl; good = rw (← c.self.view_is) c.self.invariant.1 }

pub unwrap-used-requires : goal.unwrap-used-requires
unwrap-used-requires c = is_read c.read_failure.result c.loop-rest.rest.now c.loop-rest.invariant.left c.loop-rest.invariant.good c.read_failure.ensures.fault

pub loop-rest-preserved : goal.loop-rest-preserved
loop-rest-preserved c =
    rw (c.in_ok-push.ensures.ok, c.split_at.ensures.back)
    (Copied-more c.args.self.now c.loop-rest.failures c.loop-rest.rest.now c.unwrap-used.result.1 c.unwrap-used.result.0 c.loop-rest.invariant (rw c.unwrap-used.ensures at c.read_failure.ensures.found))

pub returns : goal.returns
returns c = Copied-end c.args.self.now c.loop-rest.failures c.loop-rest.rest.now c.loop-rest.invariant (eqb-true _ _ (sym c.is_empty.ensures ∙ c.loop-rest-test.false))
