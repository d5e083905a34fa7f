use Rattle.std.proofs.Common.{drop}
use Rattle.mirror.specs.Seen.{seen}
use Rattle.order_maker.specs.Alike.{AreAlike}
use Rattle.order_maker.proofs.deeds.are_alike.Given as goal

-- all versions are alike if those that are left are
abbrev pub invariant-loop-serial : goal.invariant-loop-serial
invariant-loop-serial l =
    AreAlike (seen l.before) (seen l.after) (drop l.serial-index l.versions) → AreAlike (seen l.before) (seen l.after) l.versions
