use Rattle.cell_register.proofs.EditLemmas.{whole_with}
use Rattle.cell_register.proofs.places.Places.insert.Goals as goal

pub invariant_of-self-in-Ok : goal.invariant_of-self-in-Ok
invariant_of-self-in-Ok c =
    let fresh = rw (← c.restore_index.ensures, ← c.self.view_is) at c.requires in
    rw c.in-Ok.ensures.inserted (whole_with c.args.c c.args.b c.self.inside.places.items c.self.inside.seats c.insert_seat.new.seats fresh c.self.invariant c.in_ok-insert_seat.ensures.inserted)
