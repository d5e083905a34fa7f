use Rattle.std.proofs.Common.{map, take}
use Rattle.mirror.specs.Seen.{seen}
use Rattle.order_maker.specs.Actions.{in_cell, kills}
use Rattle.order_maker.specs.Pending.{IsWith}
use Rattle.order_maker.proofs.pending.Pending.put_kills.Given as goal

-- the KILLs of the versions passed are put in
abbrev pub invariant-loop-serial : goal.invariant-loop-serial
invariant-loop-serial l =
    IsWith l.fn.self l.self l.b (map (in_cell l.c) (kills (seen l.line.sight.now) (take l.serial-index l.versions)))
