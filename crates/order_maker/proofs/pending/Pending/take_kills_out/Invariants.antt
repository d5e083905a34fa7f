use Rattle.std.proofs.Common.{map, take}
use Rattle.mirror.specs.Seen.{seen}
use Rattle.order_maker.specs.Actions.{in_cell, kills}
use Rattle.order_maker.specs.Pending.{IsWithout}
use Rattle.order_maker.proofs.pending.Pending.take_kills_out.Given as goal

-- the KILLs of the versions passed are taken out
abbrev pub invariant-loop-serial : goal.invariant-loop-serial
invariant-loop-serial l =
    IsWithout l.fn.self l.self l.b (map (in_cell l.c) (kills (seen l.line.sight.now) (take l.serial-index l.versions)))
