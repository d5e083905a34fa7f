use Rattle.std.proofs.Common.{rules}
use Rattle.centre_past.proofs.SpotLemmas.{known_found}
use Rattle.centre_lines.proofs.spots.known_at.Goals as goal

pub returns : goal.returns
returns c =
    known_found c.args.tables.now c.args.register.now c.args.b _ c.in_ok-spots.spots.items c.in_ok-cells.ensures.order c.in_ok-cells.ensures.known (search rules)
