use Rattle.coverage_board.proofs.board.Board.tell_rows.Goals as goal

pub returns : goal.returns
returns c = rw (← c.self.view_is) c.self.invariant
