use Rattle.std.proofs.Common.{◌≡◌, ◌++◌, ◌∙◌, suc, take, drop, ap}
use Rattle.common.specs.Cell.{cell_lt}
use Rattle.common.specs.Order.{is_ascending}
use Rattle.order_maker.specs.Pending.{has_cell}
use Rattle.order_maker.proofs.CellLemmas.{ascending_without, has_none, has_without, none_at}
use Rattle.order_maker.proofs.order_cells.OrderCells.take_out_between.Goals as goal

pub invariant_of-self : goal.invariant_of-self
invariant_of-self c =
    let cells = c.self.inside.cells.items in
    let place = c.start_of-place.result in
    let at = c.stands_at.ensures.there c.if-stands_at.true in
    let left : c.remove.new.self.items ≡ take place cells ++ drop (suc place) cells = rw (c.remove.ensures.succeeds c.args.c (rw (← c.self.inside.cells.ok.0) at at.bound)) at c.remove.ensures.items in
    ap (is_ascending cell_lt) left ∙ ascending_without c.args.c cells place c.self.invariant at

pub returns-then-stands_at-clause-less : goal.returns-then-stands_at-clause-less
returns-then-stands_at-clause-less c =
    let cells = c.self.inside.cells.items in
    let place = c.start_of-place.result in
    let at = c.stands_at.ensures.there c.if-stands_at.true in
    let left : c.remove.new.self.items ≡ take place cells ++ drop (suc place) cells = rw (c.remove.ensures.succeeds c.args.c (rw (← c.self.inside.cells.ok.0) at at.bound)) at c.remove.ensures.items in
    λ x. rw (← c.self.view_is) (ap (λ cs. has_cell cs x) left ∙ has_without c.args.c x cells place c.self.invariant at)

pub returns-then-stands_at-clause-order : goal.returns-then-stands_at-clause-order
returns-then-stands_at-clause-order c = invariant_of-self c

pub returns-else-stands_at-clause-less : goal.returns-else-stands_at-clause-less
returns-else-stands_at-clause-less c =
    let none = none_at c.args.c c.self.inside.cells.items c.start_of-place.result c.self.invariant c.start_of-place.ensures.bound c.start_of-place.ensures.start (c.stands_at.ensures.other c.if-stands_at.false) in
    λ x. rw (← c.self.view_is) (has_none c.args.c x c.self.inside.cells.items none)
