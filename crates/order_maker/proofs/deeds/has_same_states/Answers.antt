use Rattle.mirror.specs.Seen.{seen}
use Rattle.order_maker.proofs.AlikeLemmas.{deeds_alike}
use Rattle.order_maker.proofs.deeds.has_same_states.Goals as goal

pub returns-then-is_wanted_alike : goal.returns-then-is_wanted_alike
returns-then-is_wanted_alike c =
    λ h p. deeds_alike (seen c.args.before.now) (seen c.args.after.now) p (c.is_wanted_alike.ensures c.if-is_wanted_alike.true) (c.are_alike.ensures h)
