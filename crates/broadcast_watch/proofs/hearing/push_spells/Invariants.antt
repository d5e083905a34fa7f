use Rattle.std.proofs.Common.{◌≡◌, ◌++◌, drop}
use Rattle.std.specs.List.{flat_map}
use Rattle.broadcast_watch.specs.Spells.{spells_of}
use Rattle.broadcast_watch.proofs.hearing.push_spells.Given as goal

-- the spells so far, and those of the cells ahead, are all of them
abbrev pub invariant-loop-one : goal.invariant-loop-one
invariant-loop-one l = l.spells.items ++ flat_map (spells_of l.limit l.now l.old) (drop l.one-index l.counted) ≡ l.initial.spells.items ++ flat_map (spells_of l.limit l.now l.old) l.counted
