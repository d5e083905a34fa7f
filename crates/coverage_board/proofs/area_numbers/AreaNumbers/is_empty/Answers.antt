use Rattle.std.proofs.Common.{length, ap}
use Rattle.coverage_board.proofs.AreaLemmas.{no_entries, no_numbers}
use Rattle.coverage_board.proofs.area_numbers.AreaNumbers.is_empty.Goals as goal

pub returns : goal.returns
returns c =
    let entries = c.self.inside.map.entries in
    rw (← c.self.view_is) ((λ none. no_numbers entries (c.is_empty.ensures.0 none), λ zero. c.is_empty.ensures.1 (ap length (no_entries entries c.self.invariant zero))))
