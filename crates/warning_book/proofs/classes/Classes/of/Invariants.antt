use Rattle.std.proofs.Common.{◌≡◌, true, take}
use Rattle.warning_book.specs.Classes.{have_classes}
use Rattle.warning_book.proofs.classes.Classes.of.Given as goal

-- the names passed have these classes
abbrev pub invariant-loop-name : goal.invariant-loop-name
invariant-loop-name l = have_classes l.classes.digits (take l.name-index l.names) ≡ true
