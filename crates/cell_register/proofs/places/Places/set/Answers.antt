use Rattle.std.proofs.Common.{◌∙◌, sym, ap}
use Rattle.cell_register.specs.Laws.{is_some_place_among}
use Rattle.std.specs.Option.{is_some}
use Rattle.cell_register.proofs.EditLemmas.{whole_moved}
use Rattle.cell_register.proofs.PlacesLemmas.{moved_none}
use Rattle.cell_register.proofs.places.Places.set.Goals as goal

pub invariant_of-self : goal.invariant_of-self
invariant_of-self c =
    let ps = c.self.inside.places.items in
    let none = sym (is_some_place_among c.args.c ps) ∙ ap is_some (sym c.set_bsc.ensures.old ∙ c.in_default.is) in
    rw (c.set_bsc.ensures.set ∙ moved_none c.args.c c.args.b ps none) c.self.invariant

pub invariant_of-self-2 : goal.invariant_of-self-2
invariant_of-self-2 c =
    rw c.set_bsc.ensures.set (whole_moved c.args.c c.in-Some.old c.args.b c.self.inside.places.items c.self.inside.seats c.move_seat.new.seats (sym c.set_bsc.ensures.old ∙ c.in-Some.is) c.self.invariant c.move_seat.ensures)
