use Rattle.std.proofs.Common.{◌≡◌, ◌∙◌, List, Some, ap, sym}
use Rattle.std.specs.Option.{option_map}
use Rattle.centre_events.specs.Warnings.{book_of}
use Rattle.centre_past.specs.Lists.{failed_rows}
use Rattle.centre_past.specs.declared.lists.failed_row.FailedRow.{FailedRow}
use Rattle.warning_book.specs.Book.{warning_of}
use Rattle.centre_answers.proofs.ListLemmas.{numbered}
use Rattle.centre_answers.proofs.lists.failed.failed.Goals as goal

pub returns-in_ok-failed_rows-in-Some-clause-rows : goal.returns-in_ok-failed_rows-in-Some-clause-rows
returns-in_ok-failed_rows-in-Some-clause-rows c = λ past tells downs registered tied same.
    let found : warning_of (book_of past) c.args.number ≡ Some c.in-Some.warning.now = ap (λ st. warning_of st c.args.number) (sym same) ∙ sym c.in-Some.ensures in
    ap (λ (rows : List FailedRow). Some rows) (c.in_ok-failed_rows-in-Some.ensures.rows past tells downs registered tied (numbered (book_of past) c.args.number c.in-Some.warning.now found))
    ∙ sym (ap (option_map (failed_rows past)) found)
