use Rattle.std.proofs.Common.{◌≡◌, take}
use Rattle.centre_lines.proofs.warning_before.own_names.Given as goal

abbrev pub invariant-loop-name : goal.invariant-loop-name
invariant-loop-name l = l.out.items ≡ take l.name-index l.names
