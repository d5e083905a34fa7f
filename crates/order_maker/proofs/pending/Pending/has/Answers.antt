use Rattle.std.proofs.Common.{sym, ap}
use Rattle.std.specs.Option.{is_some}
use Rattle.order_maker.specs.Grouping.{first, grouped, in_order}
use Rattle.order_maker.proofs.ByBscLemmas.{none_listed, same_list}
use Rattle.order_maker.proofs.pending.Pending.has.Goals as goal

pub returns-in-Some : goal.returns-in-Some
returns-in-Some c =
    λ xs l. c.has.ensures xs (same_list xs c.args.self.now c.in-Some.orders.now c.args.b c.in-Some.ensures.some l)

pub returns-in-None : goal.returns-in-None
returns-in-None c =
    λ xs l. ap (λ ys. is_some (first (grouped (in_order ys)))) (sym (none_listed xs c.args.self.now c.args.b c.in-None.ensures.none l))
