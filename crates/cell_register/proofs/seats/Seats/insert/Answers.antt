use Rattle.std.proofs.Common.{◌∙◌, true, cond, ap}
use Rattle.std.specs.BTreeMap.{is_at}
use Rattle.std.specs.List.{list_any}
use Rattle.cell_register.proofs.SeatLemmas.{seat_cmp, with_seat}
use Rattle.cell_register.proofs.seats.Seats.insert.Goals as goal

pub returns-clause-inserted : goal.returns-clause-inserted
returns-clause-inserted c =
    rw (← c.self.view_is) (with_seat c.args.b c.args.c c.self.inside.seats.keys c.insert.new.self.keys (λ s. c.in_ok-insert.ensures.updates.0 s ∙ ap (λ k. cond (is_at (seat_cmp k) s) true (list_any (is_at (seat_cmp s)) c.self.inside.seats.keys)) c.seat.ensures))
