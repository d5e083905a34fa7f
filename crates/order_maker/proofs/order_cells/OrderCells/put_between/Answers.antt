use Rattle.std.proofs.Common.{◌∙◌, ap}
use Rattle.common.specs.Cell.{cell_lt}
use Rattle.common.specs.Order.{is_ascending}
use Rattle.order_maker.specs.Pending.{has_cell}
use Rattle.order_maker.proofs.CellLemmas.{ascending_at, has_already, has_at}
use Rattle.order_maker.proofs.order_cells.OrderCells.put_between.Goals as goal

pub returns-then-stands_at-clause-more : goal.returns-then-stands_at-clause-more
returns-then-stands_at-clause-more c =
    λ x. has_already c.args.c x c.args.self.now c.start_of-place.result (rw c.self.view_is at (c.stands_at.ensures.there c.if-stands_at.true))

pub invariant_of-self-2 : goal.invariant_of-self-2
invariant_of-self-2 c =
    ap (is_ascending cell_lt) c.in_ok-insert.ensures.items
    ∙ ascending_at c.args.c c.self.inside.cells.items c.start_of-place.result c.self.invariant c.start_of-place.ensures.bound c.start_of-place.ensures.start (c.stands_at.ensures.other c.if-stands_at.false)

pub returns-clause-more : goal.returns-clause-more
returns-clause-more c =
    λ x. rw (← c.self.view_is) (ap (λ cs. has_cell cs x) c.in_ok-insert.ensures.items ∙ has_at c.args.c x c.self.inside.cells.items c.start_of-place.result c.start_of-place.ensures.bound c.start_of-place.ensures.start)

pub returns-clause-order : goal.returns-clause-order
returns-clause-order c = invariant_of-self-2 c
