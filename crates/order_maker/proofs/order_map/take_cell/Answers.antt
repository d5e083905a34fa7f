use Rattle.std.proofs.Common.{◌≡◌, ◌∙◌, ◌&&◌, not, ap, sym, rules}
use Rattle.std.proofs.lemmas.Bool.{not-false}
use Rattle.std.specs.BTreeMap.{is_at}
use Rattle.std.specs.List.{list_all}
use Rattle.common.specs.Cell.{cell_eq}
use Rattle.order_maker.specs.Pending.{key_cmp, has_cell, is_whole, cells_at, are_of}
use Rattle.order_maker.proofs.ByBscLemmas.{of_set}
use Rattle.order_maker.proofs.HeldLemmas.{cells_set, cells_found, cell_taken, none_there, whole_removed, whole_set, whole_set_removed}
use Rattle.order_maker.proofs.order_map.take_cell.Goals as goal

pub returns-in_default-clause-without : goal.returns-in_default-clause-without
returns-in_default-clause-without c =
    rw c.get_mut.follows.holds-at-none (none_there c.args.key.now c.args.c c.args.orders.now.entries (sym c.in_default.ensures.value))

pub returns-in_default-clause-others : goal.returns-in_default-clause-others
returns-in_default-clause-others c =
    λ whole. rw c.get_mut.follows.holds-at-none (whole_removed (is_at (key_cmp c.args.key.now)) c.args.orders.now.entries whole)

pub returns-clause-without : goal.returns-clause-without
returns-clause-without c =
    let old = c.args.orders.now.entries in
    let k = c.args.key.now in
    let left = c.take_out.new.self in
    let new = (c.get_mut.follows.lender left).entries in
    let found : cells_at old k ≡ c.in-Some.cells.now = cells_found k c.in-Some.cells.now old (sym c.in-Some.ensures.value) in
    let set = ((c.get_mut.follows.holds left).3 (search rules)).0 in
    cell_taken k c.args.c left old new (cells_set k left old new set) (λ x. c.take_out.ensures.less x ∙ ap (λ cells. has_cell cells x && not (cell_eq x c.args.c)) (sym found))

pub returns-clause-whole : goal.returns-clause-whole
returns-clause-whole c =
    let test = is_at (key_cmp c.args.key.now) in
    let left = c.take_out.new.self in
    λ whole some. ap (list_all is_whole) ((c.get_mut.follows.holds left).0) ∙ whole_set test left c.args.orders.now.entries whole (sym c.has_some.ensures ∙ not-false c.has_some.result some) c.take_out.ensures.order

pub returns-clause-others : goal.returns-clause-others
returns-clause-others c =
    let test = is_at (key_cmp c.args.key.now) in
    let left = c.take_out.new.self in
    λ whole. rw ((c.get_mut.follows.holds left).0) (whole_set_removed test left c.args.orders.now.entries whole)

pub returns-clause-own : goal.returns-clause-own
returns-clause-own c =
    let left = c.take_out.new.self in
    λ b own. ap (are_of b) ((c.get_mut.follows.holds left).0) ∙ of_set b (is_at (key_cmp c.args.key.now)) left c.args.orders.now.entries own
