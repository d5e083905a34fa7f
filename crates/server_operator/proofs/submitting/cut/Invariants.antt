use Rattle.std.proofs.Common.{◌≡◌}
use Rattle.server_operator.proofs.submitting.cut.Given as goal

-- what was submitted before was refused: the desk is as it was, but for its room
abbrev pub invariant-loop-attempt : goal.invariant-loop-attempt
invariant-loop-attempt g l = l.desk ≡ record l.fn.desk { spare = l.desk.spare }
