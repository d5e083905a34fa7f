use Rattle.std.proofs.Common.{take}
use Rattle.areas.specs.Shares.{Tells}
use Rattle.areas.proofs.shares.Shares.of.Given as goal

-- what is told holds of the selectors before the place
abbrev pub invariant-loop-place : goal.invariant-loop-place
invariant-loop-place l = Tells (take l.place l.selectors) l.shares
