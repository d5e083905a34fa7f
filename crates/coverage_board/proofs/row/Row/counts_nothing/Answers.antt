use Rattle.std.proofs.Common.{IsTrue, rules}
use Rattle.coverage_board.proofs.row.Row.counts_nothing.Goals as goal

pub returns-then-is_empty : goal.returns-then-is_empty
returns-then-is_empty c =
    let empty : IsTrue c.is_empty.result = search rules in
    rw (← c.self.view_is) ((λ zero. (c.is_zero.ensures.0 zero, c.is_empty.ensures.0 empty), λ none. c.is_zero.ensures.1 none.0))

pub returns-else-is_empty : goal.returns-else-is_empty
returns-else-is_empty c =
    rw (← c.self.view_is) ((λ empty. absurd (search (rules, empty)), λ none. c.is_empty.ensures.1 none.1))
