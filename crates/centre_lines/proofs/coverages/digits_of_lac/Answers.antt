use Rattle.std.proofs.Common.{arith, refl}
use Rattle.areas.specs.Areas.{selects}
use Rattle.common.specs.declared.cell.Cell.{Cell}
use Rattle.coverage_board.specs.AreaSetLaws.{drop_few}
use Rattle.centre_lines.proofs.coverages.digits_of_lac.Goals as goal

pub behind-digits-requires : goal.behind-digits-requires
behind-digits-requires c =
    let d : Cell = record { lac = c.args.lac; ci = 0 } in
    let low = drop_few (λ s. selects s d) c.args.coverages.now c.loop-place.place c.requires (omega arith) in
    let is = c.loop-place.invariant.digits d refl in
    omega arith
