use Rattle.std.proofs.Common.{◌∙◌, ap}
use Rattle.common.specs.Cell.{cell_lt}
use Rattle.common.specs.Order.{is_ascending}
use Rattle.order_maker.specs.Pending.{has_cell}
use Rattle.order_maker.proofs.CellLemmas.{ascending_rest, has_rest}
use Rattle.order_maker.proofs.order_cells.OrderCells.take_out.Goals as goal

pub invariant_of-self : goal.invariant_of-self
invariant_of-self c =
    ap (is_ascending cell_lt) c.pop_front.ensures.rest
    ∙ ascending_rest c.args.c c.self.inside.cells.items c.self.invariant (c.stands_at.ensures.there c.if-stands_at.true)

pub returns-then-stands_at-clause-less : goal.returns-then-stands_at-clause-less
returns-then-stands_at-clause-less c =
    λ x. rw (← c.self.view_is) (ap (λ cs. has_cell cs x) c.pop_front.ensures.rest ∙ has_rest c.args.c x c.self.inside.cells.items c.self.invariant (c.stands_at.ensures.there c.if-stands_at.true))
