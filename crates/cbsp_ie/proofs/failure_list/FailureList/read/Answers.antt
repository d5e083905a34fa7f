use Rattle.std.proofs.Common.{length, eqb-true, sym, ◌≡◌, ◌∙◌}
use Rattle.cbsp_ie.specs.FailureList.{AreFailures, entries_after}
use Rattle.cbsp_ie.proofs.FailureListLemmas.{SoFar-end, SoFar-more, SoFar-start}
use Rattle.cbsp_ie.proofs.failure_list.FailureList.read.Goals as goal

whole : (c : goal.After-loop-rest) → (AreFailures c.args.listed.now (entries_after 0 c.args.listed.now)) × (c.loop-rest.count ≡ length (entries_after 0 c.args.listed.now))
whole c = SoFar-end c.args.listed.now c.loop-rest.rest.now c.loop-rest.count c.loop-rest.invariant (eqb-true _ _ (sym c.is_empty.ensures ∙ c.loop-rest-test.false))

pub loop-rest-init : goal.loop-rest-init
loop-rest-init c = SoFar-start c.args.listed.now

pub loop-rest-preserved : goal.loop-rest-preserved
loop-rest-preserved c =
    let e = c.in_ok-used.ensures in
    rw c.split_at.ensures.back
    (SoFar-more c.args.listed.now c.loop-rest.rest.now c.loop-rest.count c.in_ok-used.used c.in_ok-used.field-0-0 c.loop-rest.invariant e.found e.within e.some)

pub invariant_of-result : goal.invariant_of-result
invariant_of-result c = let w = whole c in (w.1, w.0)

pub returns-clause-found : goal.returns-clause-found
returns-clause-found c = let w = whole c in w.0
