use Rattle.std.proofs.Common.{◌≡◌, take}
use Rattle.centre_events.specs.Outcomes.{failed_ids}
use Rattle.centre_events.proofs.replying.failed_ids.Given as goal

-- the identifications of the failures passed
abbrev pub invariant-loop-failure : goal.invariant-loop-failure
invariant-loop-failure l = l.ids.items ≡ failed_ids (take l.failure-index l.failures)
