use Rattle.std.proofs.Common.{◌∙◌}
use Rattle.cell_register.proofs.PlacesLemmas.{inserted_at}
use Rattle.cell_register.proofs.by_cell.insert.Goals as goal

pub returns-clause-inserted : goal.returns-clause-inserted
returns-clause-inserted c =
    let ensured = rw c.as_slice.ensures.value at c.start_of-start.ensures in
    c.in_ok-insert.ensures.items ∙ inserted_at c.args.c c.args.b c.args.places.now.items c.start_of-start.result ensured.bound ensured.start
