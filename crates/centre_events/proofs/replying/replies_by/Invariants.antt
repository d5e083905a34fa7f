use Rattle.std.proofs.Common.{◌≡◌, map, take}
use Rattle.centre_events.specs.InFlight.{cells_of}
use Rattle.centre_events.specs.Outcomes.{reply_of}
use Rattle.centre_events.proofs.replying.replies_by.Given as goal

-- what is said of the cells passed
abbrev pub invariant-loop-cell : goal.invariant-loop-cell
invariant-loop-cell l = l.said.items ≡ map (reply_of l.network l.message l.flight) (take l.cell-index (cells_of l.flight))
