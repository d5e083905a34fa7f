use Rattle.std.proofs.Common.{◌≡◌, ◌∙◌, ◌<◌, ◌≤◌, ap, length, get_or, rules}
use Rattle.std.specs.List.{position_or_len}
use Rattle.order_maker.specs.ByBsc.{is_bsc}
use Rattle.order_maker.specs.Pending.{holds}
use Rattle.order_maker.proofs.ByBscLemmas.{absent_past, found_bsc, held_nowhere, held_there}
use Rattle.order_maker.proofs.pending.Pending.orders_of.Goals as goal

pub returns-in_default-clause-none : goal.returns-in_default-clause-none
returns-in_default-clause-none c =
    let bscs = c.self.inside.bscs.items in
    let place : c.place_of-place.result ≡ position_or_len (is_bsc c.args.b) bscs = search rules in
    let past : length bscs ≤ c.place_of-place.result = search rules in
    rw (← c.self.view_is) (λ a. held_nowhere bscs c.args.b a c.self.invariant (absent_past c.args.b bscs c.place_of-place.result place past))

pub returns-clause-some : goal.returns-clause-some
returns-clause-some c =
    let bscs = c.self.inside.bscs.items in
    let i = c.place_of-place.result in
    let e = c.in-Some.held.now in
    let place : i ≡ position_or_len (is_bsc c.args.b) bscs = search rules in
    let within : i < length bscs = search rules in
    let at : get_or bscs i e ≡ e = search rules in
    rw (← c.self.view_is) (λ a. ap (λ held. holds held c.args.b a) c.orders.ensures ∙ held_there bscs i e c.args.b a c.self.invariant within at (found_bsc c.args.b bscs i e place within at))
