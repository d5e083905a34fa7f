use Rattle.std.proofs.Common.{◌≡◌, drop}
use Rattle.warning_book.specs.Book.{content_of}
use Rattle.warning_book.proofs.questions.content_of.Given as goal

-- none of the warnings passed has such a version
abbrev pub invariant-loop-warning : goal.invariant-loop-warning
invariant-loop-warning l = content_of l.message_id l.serial (drop l.warning-index l.warnings) ≡ content_of l.message_id l.serial l.warnings
