use Rattle.std.proofs.Common.{◌≡◌, ◌++◌, drop}
use Rattle.std.specs.List.{flat_map}
use Rattle.lists_text.specs.ListTexts.{bsc_text}
use Rattle.lists_text.proofs.bscs.bscs_text.Given as goal

-- the lines so far, and those of the rows ahead, are all of them
abbrev pub invariant-loop-row : goal.invariant-loop-row
invariant-loop-row l = l.text.items ++ flat_map (bsc_text l.resets) (drop l.row-index l.rows) ≡ flat_map (bsc_text l.resets) l.rows
