use Rattle.std.proofs.Common.{◌≡◌, ◌++◌, drop}
use Rattle.std.specs.List.{flat_map}
use Rattle.lists_text.specs.ListTexts.{silent_line}
use Rattle.lists_text.proofs.air.push_all_silent.Given as goal

-- the lines so far, and those of the rows ahead, are all of them
abbrev pub invariant-loop-row : goal.invariant-loop-row
invariant-loop-row l = l.text.items ++ flat_map silent_line (drop l.row-index l.rows) ≡ l.initial.text.items ++ flat_map silent_line l.rows
