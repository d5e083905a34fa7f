use Rattle.cell_register.proofs.IndexLemmas.{cells_by_index}
use Rattle.cell_register.proofs.places.Places.cells_of.Goals as goal

pub returns-in_ok-found-in-Some : goal.returns-in_ok-found-in-Some
returns-in_ok-found-in-Some c =
    let ensured = c.in_ok-found-in-Some.ensures in
    rw (← c.self.view_is) (cells_by_index c.in-Some.seats c.self.inside.places.items c.args.b c.in_ok-found-in-Some.found (rw c.in-Some.is at c.self.invariant.indexed) c.self.invariant.ascend ensured.found ensured.ordered)
