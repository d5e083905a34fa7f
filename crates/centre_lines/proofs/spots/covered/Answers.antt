use Rattle.std.proofs.Common.{rules}
use Rattle.std.specs.List.{list_any}
use Rattle.areas.specs.Areas.{covers}
use Rattle.centre_past.proofs.SpotLemmas.{covered_placed}
use Rattle.centre_lines.proofs.spots.covered.Goals as goal

pub returns : goal.returns
returns c =
    covered_placed c.args.register.now (λ d. list_any (λ a. covers c.args.areas.now a d) c.args.names.now) c.in_ok-cells.cells c.in_ok-spots.spots.items c.in_ok-cells.ensures (search rules)
