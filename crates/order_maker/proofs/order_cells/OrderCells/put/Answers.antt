use Rattle.std.proofs.Common.{◌∙◌, ap}
use Rattle.common.specs.Cell.{cell_lt}
use Rattle.common.specs.Order.{is_ascending}
use Rattle.order_maker.specs.Pending.{has_cell}
use Rattle.order_maker.proofs.CellLemmas.{ascending_last, has_last}
use Rattle.order_maker.proofs.order_cells.OrderCells.put.Goals as goal

pub invariant_of-self-then-are_before : goal.invariant_of-self-then-are_before
invariant_of-self-then-are_before c =
    ap (is_ascending cell_lt) c.in_ok-push_back.ensures.items
    ∙ ascending_last c.args.c c.self.inside.cells.items c.self.invariant (c.are_before.ensures c.if-are_before.true)

pub returns-then-are_before-clause-more : goal.returns-then-are_before-clause-more
returns-then-are_before-clause-more c =
    λ x. rw (← c.self.view_is) (ap (λ cs. has_cell cs x) c.in_ok-push_back.ensures.items ∙ has_last c.args.c x c.self.inside.cells.items (c.are_before.ensures c.if-are_before.true))

pub returns-then-are_before-clause-order : goal.returns-then-are_before-clause-order
returns-then-are_before-clause-order c = invariant_of-self-then-are_before c
