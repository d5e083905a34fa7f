use Rattle.std.proofs.Common.{◌≡◌, map, take}
use Rattle.centre_events.specs.Past.{Past}
use Rattle.centre_events.specs.declared.settings.Settings.{Settings}
use Rattle.centre_past.specs.IsKept.{IsKept}
use Rattle.centre_past.specs.Legal.{Legal}
use Rattle.centre_past.specs.Lists.{bsc_row}
use Rattle.centre_answers.proofs.lists.bscs.rows_of.Given as goal

-- the rows of the BSCs passed
abbrev pub invariant-loop-bsc : goal.invariant-loop-bsc
invariant-loop-bsc l = (settings : Settings) (past : Past) → Legal settings past → IsKept past l.kept → l.rows.items ≡ map (bsc_row past) (take l.bsc-index l.bscs)
