use Rattle.std.proofs.Common.{◌≡◌, ◌<◌, drop}
use Rattle.warning_book.specs.Classes.{class_of, class_from}
use Rattle.warning_book.proofs.classes.class_of.Given as goal

-- the octets passed have that class
abbrev pub invariant-loop-octet : goal.invariant-loop-octet
invariant-loop-octet l = record { rest : class_from l.class (drop l.octet-index l.a) ≡ class_of l.a; bound : l.class < 128 }
