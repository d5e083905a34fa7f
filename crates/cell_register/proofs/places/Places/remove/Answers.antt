use Rattle.std.proofs.Common.{◌∙◌, sym, ap}
use Rattle.std.specs.Option.{is_some}
use Rattle.common.specs.Cell.{cell_eq}
use Rattle.common.specs.OnceLaws.{kept_whole}
use Rattle.cell_register.specs.Laws.{is_some_place_among}
use Rattle.cell_register.proofs.EditLemmas.{whole_without}
use Rattle.cell_register.proofs.places.Places.remove.Goals as goal

pub invariant_of-self : goal.invariant_of-self
invariant_of-self c =
    rw c.remove.ensures.removed (whole_without c.args.c c.in-Some.b c.self.inside.places.items c.self.inside.seats c.remove_seat.new.seats (sym c.remove.ensures.old ∙ c.in-Some.is) c.self.invariant c.remove_seat.ensures)

pub invariant_of-self-in_default : goal.invariant_of-self-in_default
invariant_of-self-in_default c =
    let ps = c.self.inside.places.items in
    let none = sym (is_some_place_among c.args.c ps) ∙ ap is_some (sym c.remove.ensures.old ∙ c.in_default.is) in
    rw (c.remove.ensures.removed ∙ kept_whole (λ p. cell_eq p.cell c.args.c) ps none) c.self.invariant
