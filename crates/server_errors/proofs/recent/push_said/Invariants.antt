use Rattle.std.proofs.Common.{◌≡◌, ◌++◌, drop}
use Rattle.std.specs.List.{flat_map}
use Rattle.server_errors.specs.SaidLines.{said_line}
use Rattle.server_errors.proofs.recent.push_said.Given as goal

-- the text so far, and the lines ahead, are all of it
abbrev pub invariant-loop-line : goal.invariant-loop-line
invariant-loop-line l = l.text.items ++ flat_map said_line (drop l.line-index l.lines) ≡ l.initial.text.items ++ flat_map said_line l.lines
