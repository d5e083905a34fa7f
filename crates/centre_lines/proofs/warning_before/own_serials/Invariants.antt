use Rattle.std.proofs.Common.{◌≡◌, take}
use Rattle.centre_lines.proofs.warning_before.own_serials.Given as goal

abbrev pub invariant-loop-serial : goal.invariant-loop-serial
invariant-loop-serial l = l.out.items ≡ take l.serial-index l.serials
