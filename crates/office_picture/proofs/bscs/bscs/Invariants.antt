use Rattle.std.proofs.Common.{◌≡◌, ◌++◌, drop, map}
use Rattle.office_picture.specs.Pictures.{figures_of}
use Rattle.office_picture.proofs.bscs.bscs.Given as goal

-- the BSCs so far, and those ahead, are all of them
abbrev pub invariant-loop-row : goal.invariant-loop-row
invariant-loop-row l = l.bscs.items ++ map (figures_of l.sinces l.resets l.ends l.downs) (drop l.row-index l.rows) ≡ map (figures_of l.sinces l.resets l.ends l.downs) l.rows
