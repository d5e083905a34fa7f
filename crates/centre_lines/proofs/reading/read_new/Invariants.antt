use Rattle.std.proofs.Common.{◌≡◌, take}
use Rattle.std.specs.List.{flat_map}
use Rattle.centre_lines.proofs.NewLineLemmas.{new_at}
use Rattle.centre_lines.proofs.reading.read_new.Given as goal

-- the lines at the spots passed stand there
abbrev pub invariant-loop-spot : goal.invariant-loop-spot
invariant-loop-spot l = record {
  out : l.out.items ≡ flat_map (new_at l.initial.plan.register l.tables l.n) (take l.spot-index l.spots);
  plan : l.plan ≡ l.initial.plan;
}
