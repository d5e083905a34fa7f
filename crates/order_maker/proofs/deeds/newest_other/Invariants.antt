use Rattle.std.proofs.Common.{◌≡◌, take}
use Rattle.mirror.specs.Seen.{seen}
use Rattle.order_maker.specs.Actions.{is_replaceable, newest}
use Rattle.order_maker.proofs.deeds.newest_other.Given as goal

-- the newest of the versions passed that can be replaced
abbrev pub invariant-loop-other : goal.invariant-loop-other
invariant-loop-other l = l.found ≡ newest (is_replaceable (seen l.sight) l.serial) (take l.other-index l.versions)
