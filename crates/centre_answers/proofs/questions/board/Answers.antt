use Rattle.std.proofs.Common.{Some, ◌∙◌, ap}
use Rattle.centre_answers.proofs.BoardLemmas.{total_if, board_if}
use Rattle.centre_answers.proofs.questions.board.Goals as goal

pub returns-in-Some : goal.returns-in-Some
returns-in-Some c = λ settings past legal same is. ap (λ x. Some x) c.total.ensures ∙ ap (total_if c.args.tables.now c.args.w) c.in-Some.ensures ∙ board_if settings past legal c.args.book.now same c.args.tables.now is c.args.w
