use Rattle.std.proofs.Common.{◌≡◌, drop}
use Rattle.std.specs.Prelude.{bytes_eq}
use Rattle.common.specs.Order.{each_once}
use Rattle.warning_book.proofs.checks.each_once.Given as goal

-- none of the names passed stands there again
abbrev pub invariant-loop-i : goal.invariant-loop-i
invariant-loop-i l = each_once bytes_eq (drop l.i l.names) ≡ each_once bytes_eq l.names
