use Rattle.std.proofs.Common.{◌≡◌, ◌++◌}
use Rattle.std.specs.VecDeque.Iter.{deque_iter_rest}
use Rattle.order_maker.proofs.order_cells.OrderCells.all.Given as goal

-- the cells found and those to come are all
abbrev pub invariant-loop-cell : goal.invariant-loop-cell
invariant-loop-cell l = l.all.items ++ deque_iter_rest l.cell-iterator ≡ l.self
