use Rattle.std.proofs.Common.{◌≡◌}
use Rattle.server_lines.specs.Rest.{behind_words}
use Rattle.server_lines.proofs.rest.behind_words.Given as goal

-- what is left stands behind the words so far
abbrev pub invariant-loop-turn : goal.invariant-loop-turn
invariant-loop-turn l = l.rest ≡ behind_words l._turn l.line
