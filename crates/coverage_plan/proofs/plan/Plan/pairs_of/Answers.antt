use Rattle.std.proofs.Common.{◌≡◌, ◌+◌, true, [], ◌∷◌, refl, ◌∙◌, ap}
use Rattle.std.specs.List.{list_all}
use Rattle.common.specs.Order.{is_ascending}
use Rattle.warning_book.specs.Book.{number_lt, areas_of}
use Rattle.warning_book.specs.Sound.{was_issued, has_versions}
use Rattle.coverage_plan.proofs.EditChangeLemmas as change
use Rattle.coverage_plan.proofs.EditChangeLemmas.{from_pairs, from_areas}
use Rattle.coverage_plan.specs.Edited.{edited}
use Rattle.coverage_plan.specs.Reach.{is_of_cell, is_of_selector}
use Rattle.coverage_plan.specs.declared.edit.Edit.TheVariants as edit
use Rattle.coverage_plan.proofs.plan.Plan.pairs_of.Goals as goal

pub returns-in-AddBsc-clause-pairs : goal.returns-in-AddBsc-clause-pairs
returns-in-AddBsc-clause-pairs c =
    rw (c.from_vec.ensures, c.new.ensures.items, c.in-AddBsc.is) (change.add_bsc c.args.self.now c.in-AddBsc.field-0)

pub returns-in-RemoveBsc-clause-pairs : goal.returns-in-RemoveBsc-clause-pairs
returns-in-RemoveBsc-clause-pairs c =
    rw (c.from_vec-in-RemoveBsc.ensures, c.new-in-RemoveBsc.ensures.items, c.in-RemoveBsc.is) (change.remove_bsc c.args.self.now c.in-RemoveBsc.field-0)

pub returns-in-AddCell-clause-pairs : goal.returns-in-AddCell-clause-pairs
returns-in-AddCell-clause-pairs c =
    let st = c.args.self.now in
    let free = rw c.in-AddCell.is at c.requires in
    rw c.in-AddCell.is (from_pairs (is_of_cell c.in-AddCell.c st.book) st (edited (edit.AddCell c.in-AddCell.c c.in-AddCell.field-1) st) c.pairs_of_cell.result c.pairs_of_cell.ensures (change.add_cell st c.in-AddCell.c c.in-AddCell.field-1 free))

pub returns-in-MoveCell-clause-pairs : goal.returns-in-MoveCell-clause-pairs
returns-in-MoveCell-clause-pairs c =
    let st = c.args.self.now in
    let free = rw c.in-MoveCell.is at c.requires in
    rw c.in-MoveCell.is (from_pairs (is_of_cell c.in-MoveCell.c st.book) st (edited (edit.MoveCell c.in-MoveCell.c c.in-MoveCell.field-1) st) c.pairs_of_cell-in-MoveCell.result c.pairs_of_cell-in-MoveCell.ensures (change.move_cell st c.in-MoveCell.c c.in-MoveCell.field-1 free))

pub returns-in-RemoveCell-clause-pairs : goal.returns-in-RemoveCell-clause-pairs
returns-in-RemoveCell-clause-pairs c =
    let st = c.args.self.now in
    let free = rw c.in-RemoveCell.is at c.requires in
    rw c.in-RemoveCell.is (from_pairs (is_of_cell c.in-RemoveCell.c st.book) st (edited (edit.RemoveCell c.in-RemoveCell.c) st) c.pairs_of_cell-in-RemoveCell.result c.pairs_of_cell-in-RemoveCell.ensures (change.remove_cell st c.in-RemoveCell.c free))

pub returns-in-AddArea-clause-pairs : goal.returns-in-AddArea-clause-pairs
returns-in-AddArea-clause-pairs c =
    rw (c.from_vec-in-AddArea.ensures, c.new-in-AddArea.ensures.items, c.in-AddArea.is) (change.add_area c.args.self.now c.in-AddArea.field-0 (rw c.in-AddArea.is at c.requires))

pub returns-in-DropArea-clause-pairs : goal.returns-in-DropArea-clause-pairs
returns-in-DropArea-clause-pairs c =
    rw (c.from_vec-in-DropArea.ensures, c.new-in-DropArea.ensures.items, c.in-DropArea.is) (change.drop_area c.args.self.now c.in-DropArea.field-0 (rw c.in-DropArea.is at c.requires))

pub returns-in-Put-clause-pairs : goal.returns-in-Put-clause-pairs
returns-in-Put-clause-pairs c =
    let st = c.args.self.now in
    let free = rw c.in-Put.is at c.requires in
    let ordered : is_ascending number_lt st.book.warnings ≡ true = rw (← c.self.view_is) c.tell_soundness.ensures.ordered in
    rw c.in-Put.is (from_pairs (is_of_selector st.register st.areas st.book c.in-Put.a c.in-Put.s) st (edited (edit.Put c.in-Put.a c.in-Put.s) st) c.pairs_of_selector.result c.pairs_of_selector.ensures (change.put st c.in-Put.a c.in-Put.s free ordered))

pub returns-in-Cut-clause-pairs : goal.returns-in-Cut-clause-pairs
returns-in-Cut-clause-pairs c =
    let st = c.args.self.now in
    let free = rw c.in-Cut.is at c.requires in
    let ordered : is_ascending number_lt st.book.warnings ≡ true = rw (← c.self.view_is) c.tell_soundness.ensures.ordered in
    rw c.in-Cut.is (from_pairs (is_of_selector st.register st.areas st.book c.in-Cut.a c.in-Cut.s) st (edited (edit.Cut c.in-Cut.a c.in-Cut.s) st) c.pairs_of_selector-in-Cut.result c.pairs_of_selector-in-Cut.ensures (change.cut st c.in-Cut.a c.in-Cut.s free ordered))

pub returns-in-Issue-clause-pairs : goal.returns-in-Issue-clause-pairs
returns-in-Issue-clause-pairs c =
    let st = c.args.self.now in
    let notice = c.in-Issue.field-0 in
    let areas = c.in-Issue.names in
    let free = rw c.in-Issue.is at c.requires in
    let given : list_all (was_issued st.book.issued) st.book.warnings ≡ true = rw (← c.self.view_is) c.tell_soundness.ensures.given in
    let number : c.new-number.result ≡ st.book.issued + 1 = rw (← c.self.view_is) (c.new-number.ensures ∙ ap (λ k. k + 1) c.issued.ensures) in
    rw c.in-Issue.is (from_areas st (edited (edit.Issue notice areas) st) areas c.as_slice.result.now (st.book.issued + 1) c.new-number.result c.pairs_of_areas.result c.as_slice.ensures number c.pairs_of_areas.ensures (change.issue st notice areas free given))

pub returns-in-Update-clause-pairs : goal.returns-in-Update-clause-pairs
returns-in-Update-clause-pairs c =
    let st = c.args.self.now in
    let n = c.in-Update.n in
    let free = rw c.in-Update.is at c.requires in
    let ordered : is_ascending number_lt st.book.warnings ≡ true = rw (← c.self.view_is) c.tell_soundness.ensures.ordered in
    let versions : list_all has_versions st.book.warnings ≡ true = rw (← c.self.view_is) c.tell_soundness.ensures.versions in
    let areas : c.areas_of.result.now ≡ areas_of n st.book.warnings = rw (← c.self.view_is) c.areas_of.ensures in
    rw c.in-Update.is (from_areas st (edited (edit.Update n c.in-Update.field-1) st) (areas_of n st.book.warnings) c.areas_of.result.now n n c.pairs_of_areas-in-Update.result areas refl c.pairs_of_areas-in-Update.ensures (change.update st n c.in-Update.field-1 free ordered versions))

pub returns-in-Widen-clause-pairs : goal.returns-in-Widen-clause-pairs
returns-in-Widen-clause-pairs c =
    let st = c.args.self.now in
    let n = c.in-Widen.n in
    let a = c.in-Widen.a in
    let free = rw c.in-Widen.is at c.requires in
    rw c.in-Widen.is (from_areas st (edited (edit.Widen n a) st) (a ∷ []) c.from_ref.result.now n n c.pairs_of_areas-in-Widen.result c.from_ref.ensures.value refl c.pairs_of_areas-in-Widen.ensures (change.widen st n a free))

pub returns-in-Narrow-clause-pairs : goal.returns-in-Narrow-clause-pairs
returns-in-Narrow-clause-pairs c =
    let st = c.args.self.now in
    let n = c.in-Narrow.n in
    let a = c.in-Narrow.a in
    let free = rw c.in-Narrow.is at c.requires in
    let ordered : is_ascending number_lt st.book.warnings ≡ true = rw (← c.self.view_is) c.tell_soundness.ensures.ordered in
    rw c.in-Narrow.is (from_areas st (edited (edit.Narrow n a) st) (a ∷ []) c.from_ref-in-Narrow.result.now n n c.pairs_of_areas-in-Narrow.result c.from_ref-in-Narrow.ensures.value refl c.pairs_of_areas-in-Narrow.ensures (change.narrow st n a free ordered))

pub returns-in-Stop-clause-pairs : goal.returns-in-Stop-clause-pairs
returns-in-Stop-clause-pairs c =
    let st = c.args.self.now in
    let n = c.in-Stop.n in
    let free = rw c.in-Stop.is at c.requires in
    let ordered : is_ascending number_lt st.book.warnings ≡ true = rw (← c.self.view_is) c.tell_soundness.ensures.ordered in
    let versions : list_all has_versions st.book.warnings ≡ true = rw (← c.self.view_is) c.tell_soundness.ensures.versions in
    let areas : c.areas_of-in-Stop.result.now ≡ areas_of n st.book.warnings = rw (← c.self.view_is) c.areas_of-in-Stop.ensures in
    rw c.in-Stop.is (from_areas st (edited (edit.Stop n) st) (areas_of n st.book.warnings) c.areas_of-in-Stop.result.now n n c.pairs_of_areas-in-Stop.result areas refl c.pairs_of_areas-in-Stop.ensures (change.stop st n free ordered versions))

pub returns-in-Forget-clause-pairs : goal.returns-in-Forget-clause-pairs
returns-in-Forget-clause-pairs c =
    let st = c.args.self.now in
    let n = c.in-Forget.n in
    let free = rw c.in-Forget.is at c.requires in
    let ordered : is_ascending number_lt st.book.warnings ≡ true = rw (← c.self.view_is) c.tell_soundness.ensures.ordered in
    let areas : c.areas_of-in-Forget.result.now ≡ areas_of n st.book.warnings = rw (← c.self.view_is) c.areas_of-in-Forget.ensures in
    rw c.in-Forget.is (from_areas st (edited (edit.Forget n) st) (areas_of n st.book.warnings) c.areas_of-in-Forget.result.now n n c.pairs_of_areas-in-Forget.result areas refl c.pairs_of_areas-in-Forget.ensures (change.forget st n free ordered))
