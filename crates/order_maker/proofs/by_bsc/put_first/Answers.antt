use Rattle.std.proofs.Common.{◌≡◌, ◌∙◌, ◌&&◌, ◌||◌, true, false, nat_eq, sym, ap}
use Rattle.std.specs.List.{list_any}
use Rattle.order_maker.specs.ByBsc.{bsc_lt, is_bsc, has_own, all_held, AreByBsc}
use Rattle.order_maker.specs.Pending.{action_eq, holds, are_of}
use Rattle.common.specs.Order.{inserted}
use Rattle.order_maker.proofs.ByBscLemmas.{first_by_bsc, first_holds, or_none}
use Rattle.order_maker.proofs.by_bsc.put_first.Goals as goal

pub returns-clause-by_bsc : goal.returns-clause-by_bsc
returns-clause-by_bsc c =
    let e = c.put.new.self in
    let own : has_own e ≡ true = ap (λ n. are_of n e.orders) c.put.ensures.bsc ∙ c.put.ensures.own (ap (are_of c.args.b) c.new.ensures) in
    let absent : list_any (is_bsc e.bsc) c.args.bscs.now.items ≡ false = ap (λ n. list_any (is_bsc n) c.args.bscs.now.items) c.put.ensures.bsc ∙ c.requires.absent in
    rw c.in_ok-insert_in_order.ensures.inserted (first_by_bsc c.args.bscs.now.items e c.requires.by_bsc absent own)

pub returns-clause-put : goal.returns-clause-put
returns-clause-put c =
    let e = c.put.new.self in
    let own : has_own e ≡ true = ap (λ n. are_of n e.orders) c.put.ensures.bsc ∙ c.put.ensures.own (ap (are_of c.args.b) c.new.ensures) in
    let absent : list_any (is_bsc e.bsc) c.args.bscs.now.items ≡ false = ap (λ n. list_any (is_bsc n) c.args.bscs.now.items) c.put.ensures.bsc ∙ c.requires.absent in
    let next : AreByBsc (inserted bsc_lt e c.args.bscs.now.items) = first_by_bsc c.args.bscs.now.items e c.requires.by_bsc absent own in
    λ d x. rw c.in_ok-insert_in_order.ensures.inserted (first_holds c.args.bscs.now.items e d x c.requires.by_bsc next ∙ ap (λ t. t || holds (all_held c.args.bscs.now.items) d x) (c.in_ok-put.ensures.put d x ∙ ap (λ held. (nat_eq d c.args.b && action_eq x c.args.a) || holds held d x) c.new.ensures ∙ sym (or_none (nat_eq d c.args.b && action_eq x c.args.a))))
