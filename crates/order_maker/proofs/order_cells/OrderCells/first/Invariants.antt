use Rattle.std.proofs.Common.{◌≡◌, ◌-◌, ◌++◌, length, take}
use Rattle.std.specs.VecDeque.Iter.{deque_iter_rest}
use Rattle.order_maker.proofs.order_cells.OrderCells.first.Given as goal

-- the cells found, and the first of those to come
abbrev pub invariant-loop-cell : goal.invariant-loop-cell
invariant-loop-cell l = l.first.items ++ take (l.most - length l.first.items) (deque_iter_rest l.cell-iterator) ≡ take l.most l.self
