use Rattle.std.proofs.Common.{◌∙◌}
use Rattle.coverage_board.proofs.area_numbers.AreaNumbers.move_at.Goals as goal

pub returns-in-Some : goal.returns-in-Some
returns-in-Some c = rw (← (c.self.view_is ∙ c.in-Some.ensures.same)) c.move_there.ensures.moved
