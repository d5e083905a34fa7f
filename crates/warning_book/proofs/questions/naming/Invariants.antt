use Rattle.std.proofs.Common.{◌≡◌, take}
use Rattle.warning_book.specs.Book.{naming}
use Rattle.warning_book.proofs.questions.naming.Given as goal

-- those of the warnings passed that name the area
abbrev pub invariant-loop-warning : goal.invariant-loop-warning
invariant-loop-warning l = l.found.items ≡ naming l.a (take l.warning-index l.warnings)
