use Rattle.std.proofs.Common.{◌≡◌, drop}
use Rattle.areas.specs.Name.{octets_lt}
use Rattle.areas.proofs.naming.is_before.Given as goal

-- the octets to come decide
abbrev pub invariant-loop-place : goal.invariant-loop-place
invariant-loop-place l = octets_lt (drop l.place l.first) (drop l.place l.second) ≡ octets_lt l.first l.second
