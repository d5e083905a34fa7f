use Rattle.std.proofs.Common.{◌≡◌, length}
use Rattle.server_lines.specs.Rest.{behind_spaces}
use Rattle.server_lines.proofs.rest.behind_spaces.Given as goal

-- behind the spaces of what is left stands what stands behind those of the line
abbrev pub invariant-loop-rest : goal.invariant-loop-rest
invariant-loop-rest l = behind_spaces l.rest ≡ behind_spaces l.line

abbrev pub decreases-loop-rest : goal.decreases-loop-rest
decreases-loop-rest l = length l.rest
