use Rattle.std.proofs.Common.{◌≡◌, ◌∙◌}
use Rattle.coverage_board.proofs.AreaLemmas.{same_entries}
use Rattle.coverage_board.proofs.board.Board.copied.Goals as goal

pub invariant_of-result : goal.invariant_of-result
invariant_of-result c =
    let same : c.in_ok-clone.field-0.entries ≡ c.self.inside.rows.entries = same_entries c.self.inside.rows.entries c.in_ok-clone.field-0.entries c.in_ok-clone.ensures.cases in
    rw same c.self.invariant

pub returns : goal.returns
returns c = same_entries c.self.inside.rows.entries c.in_ok-clone.field-0.entries c.in_ok-clone.ensures.cases ∙ c.self.view_is
