use Rattle.std.proofs.Common.{◌≡◌, ◌++◌, map}
use Rattle.cell_register.proofs.SeatLemmas.{cell_of_seat, cells_at}
use Rattle.cell_register.proofs.seats.Seats.cells_of.Given as goal

-- the cells found, and those of the seats to come
abbrev pub invariant-loop-seat : goal.invariant-loop-seat
invariant-loop-seat l = l.found.items ++ map cell_of_seat l.seat-iterator ≡ cells_at l.fn.b l.self
