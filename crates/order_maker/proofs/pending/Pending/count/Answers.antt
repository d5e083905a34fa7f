use Rattle.std.proofs.Common.{◌∙◌, sym, ap}
use Rattle.order_maker.specs.Pending.{holds}
use Rattle.order_maker.proofs.ByBscLemmas.{same_list}
use Rattle.order_maker.proofs.pending.Pending.count.Goals as goal

pub returns-in-Some : goal.returns-in-Some
returns-in-Some c =
    λ xs l. c.count.ensures xs (same_list xs c.args.self.now c.in-Some.orders.now c.args.b c.in-Some.ensures.some l)

pub returns-in-None : goal.returns-in-None
returns-in-None c =
    λ xs l. c.count-in-None-2.ensures xs (same_list xs c.args.self.now c.new.result c.args.b (λ a. ap (λ held. holds held c.args.b a) c.new.ensures ∙ sym (c.in-None.ensures.none a)) l)
