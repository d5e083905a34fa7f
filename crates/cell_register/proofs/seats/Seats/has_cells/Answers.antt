use Rattle.std.proofs.Common.{true, sym, ◌∙◌, ap}
use Rattle.std.specs.List.{list_any}
use Rattle.std.specs.Map.Iter.{deref}
use Rattle.cell_register.proofs.RangeLemmas.{first_there}
use Rattle.cell_register.proofs.SeatLemmas.{between, any_kept}
use Rattle.cell_register.proofs.seats.Seats.has_cells.Goals as goal

pub returns : goal.returns
returns c =
    let e = rw (c.least.ensures, c.least-2.ensures, c.from-bsc.ensures, c.number.ensures.value) at (c.range.ensures.between tt) in
    let seats = c.self.inside.seats.keys in
    rw (← c.self.view_is) (c.is_some.ensures ∙ first_there deref _ _ _ c.next.ensures.steps ∙ ap (list_any (λ _. true)) (e ∙ between c.args.b seats) ∙ sym (any_kept c.args.b seats))
