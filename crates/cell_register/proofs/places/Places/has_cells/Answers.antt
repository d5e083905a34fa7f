use Rattle.std.proofs.Common.{◌∙◌}
use Rattle.cell_register.proofs.IndexLemmas.{any_by_index}
use Rattle.cell_register.proofs.places.Places.has_cells.Goals as goal

pub returns-in-Some : goal.returns-in-Some
returns-in-Some c =
    rw (← c.self.view_is) (c.has_cells.ensures ∙ any_by_index c.in-Some.seats c.self.inside.places.items c.args.b (rw c.in-Some.is at c.self.invariant.indexed) c.self.invariant.ascend)
