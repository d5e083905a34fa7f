use Rattle.std.proofs.Common.{◌≡◌, ◌++◌, drop}
use Rattle.mirror.specs.Seen.{seen}
use Rattle.order_maker.specs.Actions.{kills}
use Rattle.order_maker.proofs.deeds.add_kills.Given as goal

-- what is added, and what the versions ahead add, is what all add
abbrev pub invariant-loop-serial : goal.invariant-loop-serial
invariant-loop-serial l = l.out.items ++ kills (seen l.line.sight.now) (drop l.serial-index l.versions) ≡ l.fn.out.items ++ kills (seen l.line.sight.now) l.versions
