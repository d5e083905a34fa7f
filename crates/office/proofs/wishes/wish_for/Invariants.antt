use Rattle.std.proofs.Common.{◌≡◌, drop}
use Rattle.office.specs.Wishes.{wish_for}
use Rattle.office.proofs.wishes.wish_for.Given as goal

-- what is sought is among those ahead
abbrev pub invariant-loop-wish : goal.invariant-loop-wish
invariant-loop-wish l = wish_for (drop l.wish-index l.wishes) l.b ≡ wish_for l.wishes l.b
