use Rattle.line_faults.proofs.NearestLemmas.{same_ended}
use Rattle.line_faults.proofs.nearness.same_front.Goals as goal

pub returns-then-place-other-clause-same : goal.returns-then-place-other-clause-same
returns-then-place-other-clause-same c = same_ended c.loop-place.place c.args.one.now c.args.other.now c.if-place-other.true c.loop-place.invariant.same
