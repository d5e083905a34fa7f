use Rattle.std.proofs.Common.{rules}
use Rattle.centre_past.proofs.SpotLemmas.{cell_named, lac_named}
use Rattle.centre_lines.proofs.spots.named.Goals as goal
use Rattle.centre_lines.proofs.spots.named.Goals.{in-Cell+in_ok-spots-in-Cell, in-Lac+in_ok-cells-in-Lac+in_ok-spots-in-Lac}

pub returns : goal.returns
returns c = elim c.match-s.branch [
  | in-Cell+in_ok-spots-in-Cell w ↦ rw (w.in-Cell.is) (cell_named c.args.register.now w.in-Cell.cell c.match-s.spots.items (search rules))
  | in-Lac+in_ok-cells-in-Lac+in_ok-spots-in-Lac w ↦ rw (w.in-Lac.is) (lac_named c.args.register.now w.in-Lac.lac c.match-s.spots.items c.tell_soundness.ensures (search rules))
]
