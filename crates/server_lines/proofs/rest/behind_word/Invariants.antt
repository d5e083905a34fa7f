use Rattle.std.proofs.Common.{◌≡◌, length}
use Rattle.server_lines.specs.Rest.{behind_word}
use Rattle.server_lines.proofs.rest.behind_word.Given as goal

-- what is left has the same behind its word
abbrev pub invariant-loop-rest : goal.invariant-loop-rest
invariant-loop-rest l = behind_word l.rest ≡ behind_word l.line

abbrev pub decreases-loop-rest : goal.decreases-loop-rest
decreases-loop-rest l = length l.rest
