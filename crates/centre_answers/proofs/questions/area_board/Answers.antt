use Rattle.std.proofs.Common.{sym, ◌∙◌, ap}
use Rattle.centre_answers.proofs.BoardLemmas.{area_if, area_board_if}
use Rattle.centre_answers.proofs.questions.area_board.Goals as goal

pub returns-in-Some : goal.returns-in-Some
returns-in-Some c =
    λ settings past legal selected same is.
    c.named_area.ensures
    ∙ ap (area_if c.args.tables.now c.args.a.now) c.in-Some.ensures
    ∙ area_board_if settings past legal c.args.areas.now selected c.args.book.now same c.args.tables.now is c.args.w c.args.a.now (sym c.has_area.ensures ∙ c.if-not-has_area.false)
