use Rattle.std.proofs.Common.{arith, ◌<◌, ◌-◌, ◌++◌, length, take, sym, ◌∙◌, ap}
use Rattle.std.specs.VecDeque.Iter.{deque_iter_rest}
use Rattle.order_maker.proofs.CellLemmas.{first_more}
use Rattle.order_maker.proofs.order_cells.OrderCells.first.Goals as goal

pub loop-cell-preserved : goal.loop-cell-preserved
loop-cell-preserved c =
    let cells = c.loop-cell.first.items in
    let most = c.args.most in
    let few : length cells < most = omega arith in
    rw c.in_ok-push.ensures.items (first_more most c.in-Some.cell.now (deque_iter_rest c.next.new.self) cells few
    ∙ ap (λ found. cells ++ take (most - length cells) found) (sym c.in-Some.ensures.steps)
    ∙ c.loop-cell.invariant)
