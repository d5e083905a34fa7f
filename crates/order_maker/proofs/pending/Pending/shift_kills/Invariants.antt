use Rattle.std.proofs.Common.{map, take}
use Rattle.mirror.specs.Seen.{seen}
use Rattle.order_maker.specs.Actions.{in_cell, kills}
use Rattle.order_maker.specs.Pending.{Shifts}
use Rattle.order_maker.proofs.pending.Pending.shift_kills.Given as goal

-- the KILLs of the versions passed have changed
abbrev pub invariant-loop-serial : goal.invariant-loop-serial
invariant-loop-serial l =
    Shifts l.fn.self l.self l.b (map (in_cell l.c) (kills (seen l.before.sight.now) (take l.serial-index l.versions))) (map (in_cell l.c) (kills (seen l.after.sight.now) (take l.serial-index l.versions)))
