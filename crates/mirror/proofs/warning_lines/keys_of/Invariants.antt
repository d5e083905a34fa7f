use Rattle.std.proofs.Common.{◌≡◌, ◌++◌}
use Rattle.mirror.proofs.IndexLemmas.{keys_in, own_keys}
use Rattle.mirror.specs.Lines.{lines_at}
use Rattle.mirror.proofs.warning_lines.keys_of.Given as goal

-- the lines found, and those to come, are the warning's
abbrev pub invariant-loop-slot : goal.invariant-loop-slot
invariant-loop-slot l = (l.found.items ++ keys_in l.fn.w (lines_at l.slot-iterator l.lines)) ≡ own_keys l.fn.w l.lines
