use Rattle.std.proofs.Common.{◌≡◌, ℕ, [], None, true, cond, ◌∙◌, ◌&&◌, not, nat_eq, ap}
use Rattle.std.specs.BTreeMap.{is_at}
use Rattle.std.specs.Map.{lookup}
use Rattle.order_maker.specs.Pending.{OrderKey, action_eq, key_of, key_cmp, cells_at, holds, are_of, IsWithoutCell}
use Rattle.order_maker.specs.declared.action.Action.{Action}
use Rattle.order_maker.proofs.ByBscLemmas.{of_removed}
use Rattle.order_maker.proofs.HeldLemmas.{none_left, action_taken}
use Rattle.order_maker.proofs.order_map.OrderMap.take_out.Goals.{in-Some-1, in-None-1}
use Rattle.order_maker.proofs.order_map.OrderMap.take_out.Goals as goal

pub returns-then-take_cell-clause-out : goal.returns-then-take_cell-clause-out
returns-then-take_cell-clause-out c =
    let old = c.self.inside.orders.entries in
    let mid = c.take_cell.new.orders.entries in
    let new = c.remove.new.self.entries in
    let k = key_of c.args.b c.args.a in
    let without : IsWithoutCell old mid k c.args.a.cell = rw c.of-key.ensures at c.take_cell.ensures.without in
    let none : cells_at mid k ≡ [] = rw c.of-key.ensures at (c.take_cell.ensures.none c.if-take_cell.true) in
    let gone : (q : OrderKey) → lookup (is_at (key_cmp q)) new ≡ cond (is_at (key_cmp k) q) None (lookup (is_at (key_cmp q)) mid) = λ q. rw c.of-key.ensures at (c.remove.ensures.updates.0 q) in
    let taken : (d : ℕ) (x : Action) → holds new d x ≡ (holds c.args.self.now d x && not (nat_eq d c.args.b && action_eq x c.args.a)) = rw (← c.self.view_is) (action_taken c.args.b c.args.a old new (none_left k c.args.a.cell old mid new without none gone)) in
    elim c.match-remove.branch [
      | in-Some-1 w ↦ rw w.self-is taken
      | in-None-1 w ↦ rw w.self-is taken
    ]

pub returns-then-take_cell-clause-own : goal.returns-then-take_cell-clause-own
returns-then-take_cell-clause-own c =
    let mid = c.take_cell.new.orders.entries in
    let new = c.remove.new.self.entries in
    let taken : are_of c.args.b c.args.self.now ≡ true → are_of c.args.b new ≡ true = rw (← c.self.view_is) (λ own. ap (are_of c.args.b) c.remove.ensures.entries ∙ of_removed c.args.b (is_at (key_cmp c.of-key.result)) mid (c.take_cell.ensures.own c.args.b own)) in
    elim c.match-remove.branch [
      | in-Some-1 w ↦ rw w.self-is taken
      | in-None-1 w ↦ rw w.self-is taken
    ]
