use Rattle.std.proofs.Common.{◌∙◌, false, cond, ap}
use Rattle.std.specs.BTreeMap.{is_at}
use Rattle.std.specs.List.{list_any}
use Rattle.cell_register.proofs.SeatLemmas.{seat_cmp, without_seat}
use Rattle.cell_register.proofs.seats.Seats.remove.Goals as goal

pub returns : goal.returns
returns c =
    rw (← c.self.view_is) (without_seat c.args.b c.args.c c.self.inside.seats.keys c.remove.new.self.keys (λ s. c.remove.ensures.updates.0 s ∙ ap (λ k. cond (is_at (seat_cmp k) s) false (list_any (is_at (seat_cmp s)) c.self.inside.seats.keys)) c.seat.ensures))
