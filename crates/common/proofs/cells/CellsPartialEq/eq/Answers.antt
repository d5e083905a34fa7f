use Rattle.std.proofs.Common.{◌≡◌, rules}
use Rattle.std.specs.Cmp.Lexicographic.{pointwise}
use Rattle.common.specs.Cell.{cell_eq}
use Rattle.common.specs.Equality.{answered, cells_decide}
use Rattle.common.proofs.cells.CellsPartialEq.eq.Goals as goal

pub returns-clause-same : goal.returns-clause-same
returns-clause-same c =
    let test : c.eq.result ≡ pointwise cell_eq c.args.self.now c.args.other.now = search rules in
    answered test (cells_decide c.args.self.now c.args.other.now)
