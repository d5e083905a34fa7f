use Rattle.std.proofs.Common.{take}
use Rattle.centre_past.specs.Reaching.{AreSpots, is_known_among}
use Rattle.centre_lines.proofs.spots.known_anywhere.Given as goal

-- the cells known at the BSCs passed
abbrev pub invariant-loop-bsc : goal.invariant-loop-bsc
invariant-loop-bsc l = AreSpots l.spots.items (is_known_among l.tables l.register (take l.bsc-index l.bscs))
