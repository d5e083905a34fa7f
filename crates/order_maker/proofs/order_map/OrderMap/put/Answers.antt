use Rattle.std.proofs.Common.{◌≡◌, ◌∙◌, ◌||◌, Some, None, ap, cond, sym, refl, rules}
use Rattle.std.specs.BTreeMap.{is_at}
use Rattle.std.specs.List.{list_all}
use Rattle.std.specs.Map.{lookup}
use Rattle.std.proofs.lemmas.Result.{on_ok_weaker}
use Rattle.common.specs.Cell.{cell_eq, cell_lt}
use Rattle.common.specs.Order.{is_ascending}
use Rattle.order_maker.specs.Pending.{OrderKey, key_of, key_cmp, has_cell, has_some, is_whole, cells_at, are_of}
use Rattle.std.specs.Cmp.{unsigned_Decides}
use Rattle.order_maker.proofs.ByBscLemmas.{of_set, of_inserted}
use Rattle.order_maker.proofs.HeldLemmas.{cells_set, cells_found, cells_absent, action_put, some_found, whole_set, whole_inserted}
use Rattle.order_maker.proofs.KeyLemmas.{proper_key}
use Rattle.order_maker.proofs.order_map.OrderMap.put.Goals as goal

pub returns-in-Some-clause-put : goal.returns-in-Some-clause-put
returns-in-Some-clause-put c =
    let old = c.self.inside.orders.entries in
    let k = key_of c.args.b c.args.a in
    let found : cells_at old k ≡ c.in-Some.cells.now = cells_found k c.in-Some.cells.now old (rw c.of-key.ensures at (sym c.in-Some.ensures.value)) in
    let set = rw c.of-key.ensures at ((c.get_mut.follows.holds c.put.new.self).3 (search rules)).0 in
    on_ok_weaker c.put.result (λ more. rw (← c.self.view_is) (action_put c.args.b c.args.a c.put.new.self old (c.get_mut.follows.lender c.put.new.self).entries (cells_set k c.put.new.self old (c.get_mut.follows.lender c.put.new.self).entries set) (λ x. more x ∙ ap (λ cells. cell_eq x c.args.a.cell || has_cell cells x) (sym found)))) c.put.ensures.more

pub returns-clause-put : goal.returns-clause-put
returns-clause-put c =
    let old = c.self.inside.orders.entries in
    let k = key_of c.args.b c.args.a in
    let none : lookup (is_at (key_cmp k)) old ≡ None = rw c.of-key.ensures at (sym c.in_default.ensures.value) in
    let one = c.in_ok-cells.cells in
    let set : (q : OrderKey) → lookup (is_at (key_cmp q)) c.insert.new.self.entries ≡ cond (is_at (key_cmp k) q) (Some one) (lookup (is_at (key_cmp q)) old) = λ q. rw (c.get_mut.follows.holds-at-none, c.of-key.ensures) at (c.in_ok-insert.ensures.updates.0 q) in
    rw (← c.self.view_is) (action_put c.args.b c.args.a one old c.insert.new.self.entries (cells_set k one old c.insert.new.self.entries set) (λ x. ap (λ cells. has_cell cells x) c.in_ok-cells.ensures ∙ ap (λ cells. cell_eq x c.args.a.cell || has_cell cells x) (sym (cells_absent k old none))))

pub invariant_of-self : goal.invariant_of-self
invariant_of-self c =
    let old = c.self.inside.orders.entries in
    let test = is_at (key_cmp c.of-key.result) in
    ap (list_all is_whole) ((c.get_mut.follows.holds c.put.new.self).0)
    ∙ whole_set test c.put.new.self old c.self.invariant (c.put.ensures.some (some_found test c.in-Some.cells.now old c.self.invariant (sym c.in-Some.ensures.value))) c.put.ensures.order

pub invariant_of-self-2 : goal.invariant_of-self-2
invariant_of-self-2 c =
    let one = c.in_ok-cells.ensures in
    rw (c.in_ok-insert.ensures.entries, c.get_mut.follows.holds-at-none, c.of-key.ensures) (whole_inserted (key_of c.args.b c.args.a) c.in_ok-cells.cells c.self.inside.orders.entries c.self.invariant (proper_key c.args.b c.args.a) (ap has_some one) (ap (is_ascending cell_lt) one))

pub returns-in-Some-clause-own : goal.returns-in-Some-clause-own
returns-in-Some-clause-own c =
    rw (← c.self.view_is) (λ own. ap (are_of c.args.b) ((c.get_mut.follows.holds c.put.new.self).0) ∙ of_set c.args.b (is_at (key_cmp c.of-key.result)) c.put.new.self c.self.inside.orders.entries own)

pub returns-clause-own : goal.returns-clause-own
returns-clause-own c =
    rw (← c.self.view_is) (λ own. rw (c.in_ok-insert.ensures.entries, c.get_mut.follows.holds-at-none, c.of-key.ensures) (of_inserted c.args.b (key_of c.args.b c.args.a) c.in_ok-cells.cells c.self.inside.orders.entries ((unsigned_Decides c.args.b c.args.b).1 refl) own))
