use Rattle.std.proofs.Common.{◌≡◌, take}
use Rattle.warning_book.specs.Book.{naming_one_of}
use Rattle.warning_book.specs.ClassedNames.{names_of}
use Rattle.warning_book.proofs.questions.naming_one_of.Given as goal

-- those of the warnings passed that name one of the areas
abbrev pub invariant-loop-warning : goal.invariant-loop-warning
invariant-loop-warning l = l.found.items ≡ naming_one_of (names_of l.asked.items) (take l.warning-index l.warnings)
