use Rattle.std.proofs.Common.{◌≡◌, ◌++◌, length}
use Rattle.status_pages.specs.Escapes.{escaped, escaped_behind}
use Rattle.status_pages.proofs.escapes.push_escaped.Given as goal

abbrev pub decreases-loop-rest : goal.decreases-loop-rest
decreases-loop-rest l = length l.rest

-- what was appended so far, and what is ahead, are all of it
abbrev pub invariant-loop-rest : goal.invariant-loop-rest
invariant-loop-rest l = l.out.items ++ escaped_behind l.passed l.rest ≡ l.initial.out.items ++ escaped l.text
