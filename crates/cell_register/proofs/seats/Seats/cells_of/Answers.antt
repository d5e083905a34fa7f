use Rattle.std.proofs.Common.{◌∙◌, ap, map}
use Rattle.std.specs.List.{list_any}
use Rattle.common.specs.Cell.{cell_eq, cell_lt}
use Rattle.common.specs.Order.{is_ascending}
use Rattle.cell_register.proofs.RangeLemmas.{all_found}
use Rattle.cell_register.proofs.SeatLemmas.{cell_of_seat, between, cells_at_has, cells_at_ascend}
use Rattle.cell_register.proofs.seats.Seats.cells_of.Goals as goal

pub loop-seat-init : goal.loop-seat-init
loop-seat-init c =
    let e = rw (c.least.ensures, c.least-2.ensures, c.from-bsc.ensures, c.number.ensures.value) at (c.range-seat-items.ensures.between tt) in
    rw (← c.self.view_is, c.new-found.ensures.items) (ap (map cell_of_seat) (c.into_iter-seat-iterator.ensures.into_iter_gives ∙ e ∙ between c.args.b c.self.inside.seats.keys))

pub returns-clause-found : goal.returns-clause-found
returns-clause-found c d =
    let all = c.from_vec.ensures ∙ all_found _ _ _ c.loop-seat.invariant (ap (map cell_of_seat) c.in-None.ensures.steps.0) in
    ap (list_any (λ e. cell_eq e d)) all ∙ cells_at_has c.args.b d c.args.self.now

pub returns-clause-ordered : goal.returns-clause-ordered
returns-clause-ordered c =
    let all = c.from_vec.ensures ∙ all_found _ _ _ c.loop-seat.invariant (ap (map cell_of_seat) c.in-None.ensures.steps.0) in
    ap (is_ascending cell_lt) all ∙ rw (← c.self.view_is) (cells_at_ascend c.args.b c.self.inside.seats.keys c.range-seat-items.ensures.ordered)
