use Rattle.std.proofs.Common.{◌≡◌, take}
use Rattle.warning_book.specs.Book.{numbers}
use Rattle.warning_book.proofs.questions.numbers.Given as goal

-- the numbers of the warnings passed
abbrev pub invariant-loop-warning : goal.invariant-loop-warning
invariant-loop-warning l = l.all.items ≡ numbers (take l.warning-index l.warnings)
