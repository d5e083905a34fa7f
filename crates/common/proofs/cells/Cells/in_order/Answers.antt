use Rattle.std.proofs.Common.{◌∙◌, sym}
use Rattle.std.proofs.lemmas.List.Filters.{dedup_is}
use Rattle.std.proofs.lemmas.List.Kept.{IsStrictlySortedBy-dedup}
use Rattle.std.proofs.lemmas.List.Sorted.{list_any-IsPermutation}
use Rattle.common.specs.Cell.{cell_eq}
use Rattle.common.proofs.CellOrderLemmas.{ascends, cells_total, cells_tie, among_once}
use Rattle.common.proofs.cells.Cells.in_order.Goals as goal

pub returns-clause-cells : goal.returns-clause-cells
returns-clause-cells c =
    let sorted = c.sort.new.self.items in
    let is = dedup_is cell_eq sorted c.dedup.new.self.items c.dedup.ensures.filtered in
    rw c.from_vec.ensures (λ d. rw is (among_once sorted d ∙ sym (list_any-IsPermutation (cell_eq d) c.args.cells.items sorted c.sort.ensures.permutation)))

pub returns-clause-order : goal.returns-clause-order
returns-clause-order c =
    let sorted = c.sort.new.self.items in
    let is = dedup_is cell_eq sorted c.dedup.new.self.items c.dedup.ensures.filtered in
    rw c.from_vec.ensures (rw is (ascends _ (IsStrictlySortedBy-dedup cells_total cells_tie sorted c.in_ok-sort.ensures.sorted)))
