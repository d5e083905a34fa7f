use Rattle.std.proofs.Common.{◌≡◌, ◌∙◌, false, sym, ap, arith, rules}
use Rattle.common.specs.Cell.{cell_eq}
use Rattle.cell_register.specs.Register.{new_placed}
use Rattle.cell_register.proofs.PlacesLemmas.{none_at}
use Rattle.cell_register.proofs.by_cell.find.Goals.{else-start-places-via-then-start-places+else-eq, else-start-places-via-else-start-places}
use Rattle.cell_register.proofs.by_cell.find.Goals as goal

pub returns-else-start-places-clause-absent : goal.returns-else-start-places-clause-absent
returns-else-start-places-clause-absent c =
    let ps = c.args.places.now in
    let start = c.start_of-start.result in
    let ensured = c.start_of-start.ensures in
    elim c.else-start-places.branch [
      | else-start-places-via-then-start-places+else-eq w ↦
          let other : cell_eq w.index-places-start.result.cell c.args.c ≡ false = search rules in
          none_at c.args.c ps start w.index-places-start.result c.requires ensured.bound ensured.start (λ _. ap (λ p. cell_eq p.cell c.args.c) (sym w.index-places-start.is) ∙ other)
      | else-start-places-via-else-start-places w ↦
          none_at c.args.c ps start (new_placed c.args.c 0) c.requires ensured.bound ensured.start (λ h. absurd (omega (arith, w.if-start-places.false)))
    ]
