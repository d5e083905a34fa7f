use Rattle.std.proofs.Common.{◌≡◌, ◌∙◌, Some, ap, sym}
use Rattle.std.specs.Option.{option_map}
use Rattle.centre_events.specs.Warnings.{book_of}
use Rattle.centre_past.specs.Lists.{warning_sheet}
use Rattle.centre_past.specs.declared.lists.warning_sheet.WarningSheet.{WarningSheet}
use Rattle.warning_book.specs.Book.{warning_of}
use Rattle.centre_answers.proofs.ListLemmas.{numbered}
use Rattle.centre_answers.proofs.lists.warnings.warning.Goals as goal

pub returns-in_ok-warning_sheet-in-Some : goal.returns-in_ok-warning_sheet-in-Some
returns-in_ok-warning_sheet-in-Some c = λ past tells same.
    let found : warning_of (book_of past) c.args.number ≡ Some c.in-Some.warning.now = ap (λ st. warning_of st c.args.number) (sym same) ∙ sym c.in-Some.ensures in
    ap (λ (sheet : WarningSheet). Some sheet) (c.in_ok-warning_sheet-in-Some.ensures past tells (numbered (book_of past) c.args.number c.in-Some.warning.now found))
    ∙ sym (ap (option_map (warning_sheet past)) found)
