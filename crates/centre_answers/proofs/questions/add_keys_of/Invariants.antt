use Rattle.std.proofs.Common.{◌≡◌, ◌++◌, Some, take}
use Rattle.kept_tables.specs.Tables.{Tables}
use Rattle.warning_book.specs.Book.{warning_of}
use Rattle.centre_answers.specs.Asked.{Tells}
use Rattle.centre_past.specs.Idle.{AsBefore}
use Rattle.centre_events.specs.Past.{Past}
use Rattle.centre_past.specs.Table.{keys_of}
use Rattle.centre_events.specs.Warnings.{book_of}
use Rattle.centre_answers.proofs.questions.add_keys_of.Given as goal

-- what is reported of the warning in the cells passed is added, and nothing kept changes
abbrev pub invariant-loop-cell : goal.invariant-loop-cell
invariant-loop-cell l = ((t : Tables) → AsBefore t l.initial.tables → AsBefore t l.tables) × ((past : Past) (t : Tables) → Tells past t → AsBefore t l.initial.tables → warning_of (book_of past) l.w.number ≡ Some l.w → l.out.items ≡ l.initial.out.items ++ keys_of past l.b (take l.cell-index l.cells) l.w)
