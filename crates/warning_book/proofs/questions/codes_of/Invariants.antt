use Rattle.std.proofs.Common.{◌≡◌, take}
use Rattle.warning_book.specs.Book.{codes_of}
use Rattle.warning_book.proofs.questions.codes_of.Given as goal

-- the codes of the warnings passed
abbrev pub invariant-loop-warning : goal.invariant-loop-warning
invariant-loop-warning l = l.codes.items ≡ codes_of l.message_id (take l.warning-index l.warnings)
