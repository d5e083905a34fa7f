use Rattle.std.proofs.Common.{◌≡◌, take}
use Rattle.warning_book.proofs.warning_areas.WarningAreas.copied.Given as goal

-- the names passed are copied
abbrev pub invariant-loop-name : goal.invariant-loop-name
invariant-loop-name l = l.areas ≡ take l.name-index l.names
