-- The pairs that an edit changes, where nothing refuses it.
use Rattle.std.proofs.Common.{◌≡◌, ℕ, ◌+◌, ◌<◌, Bool, true, List, [], ◌∷◌, Option, Some, None, Result, Ok, Err, IfOk, length, refl, ◌∙◌, ap}
use Rattle.std.proofs.lemmas.Bool.{not-false, leb-false}
use Rattle.std.specs.List.{list_all}
use Rattle.areas.specs.declared.selector.Selector.{Selector}
use Rattle.common.specs.CheckLaws.{none_holds}
use Rattle.common.specs.Checks.{first_refusal}
use Rattle.common.specs.Order.{is_ascending}
use Rattle.common.specs.declared.cell.Cell.{Cell}
use Rattle.warning_book.specs.Book.{number_lt, areas_of, new_serial}
use Rattle.warning_book.specs.SerialLaws.{serial_is_there}
use Rattle.warning_book.specs.Sound.{was_issued, has_versions}
use Rattle.warning_book.specs.declared.content.Content.{Content}
use Rattle.warning_book.specs.declared.notice.Notice.{Notice}
use Rattle.coverage_plan.proofs.AreaChangeLemmas.{added_area, dropped_area, put_selector, cut_selector}
use Rattle.coverage_plan.proofs.CellChangeLemmas.{no_cell, added_cell, moved_cell, removed_cell}
use Rattle.coverage_plan.proofs.WarningChangeLemmas.{with_book, issued_warning, updated_warning, widened_warning, narrowed_warning, stopped_warning, forgotten_warning}
use Rattle.coverage_plan.specs.Changes.{ArePairs, Changes, is_changed}
use Rattle.coverage_plan.specs.Checks.{edit_checks}
use Rattle.coverage_plan.specs.Edited.{edited, with_issue}
use Rattle.coverage_plan.specs.Plan.{State}
use Rattle.coverage_plan.specs.Reach.{is_of_cell, is_of_selector, is_of_areas}
use Rattle.coverage_plan.specs.declared.edit.Edit.{Edit}
use Rattle.coverage_plan.specs.declared.edit.Edit.TheVariants.{AddBsc, RemoveBsc, AddCell, MoveCell, RemoveCell, AddArea, DropArea, Put, Cut, Issue, Update, Widen, Narrow, Stop, Forget}

-- pairs that pass a test are those that change where the test says so
pub from_pairs : {E : Type 0} (test : Cell → ℕ → Bool) (old new : State) (r : Result (List (Cell × ℕ)) E) → IfOk r (ArePairs test) → ((c : Cell) (n : ℕ) → test c n ≡ is_changed old new c n) → IfOk r (Changes old new)
from_pairs test old new (Ok pairs) are same = record { ordered = are.ordered; exact = λ c n. are.exact c n ∙ same c n }
from_pairs test old new (Err e) are same = tt

-- the same of the cells in some areas and one warning
pub from_areas : {E : Type 0} (old new : State) (areas named : List (List ℕ)) (n m : ℕ) (r : Result (List (Cell × ℕ)) E) → named ≡ areas → m ≡ n → IfOk r (ArePairs (is_of_areas old.register old.areas named m)) → ((c : Cell) (k : ℕ) → is_of_areas old.register old.areas areas n c k ≡ is_changed old new c k) → IfOk r (Changes old new)
from_areas old new areas named n m r e f are same =
    from_pairs (is_of_areas old.register old.areas named m) old new r are
    (λ c k. ap (λ xs. is_of_areas old.register old.areas xs m c k) e ∙ ap (λ (i : ℕ). is_of_areas old.register old.areas areas i c k) f ∙ same c k)

-- nothing refuses the edit
abbrev pub IsFree : State → Edit → Type 0
IsFree st edit = first_refusal (edit_checks st edit) ≡ None

-- the pairs that pass the test are those that the edit changes
abbrev pub IsReach : State → Edit → (Cell → ℕ → Bool) → Type 0
IsReach st edit test = (c : Cell) (n : ℕ) → test c n ≡ is_changed st (edited edit st) c n

-- the register

pub add_bsc : (st : State) (b : ℕ) → Changes st (edited (AddBsc b) st) []
add_bsc st b = no_cell st (edited (AddBsc b) st).register (λ c. refl)

pub remove_bsc : (st : State) (b : ℕ) → Changes st (edited (RemoveBsc b) st) []
remove_bsc st b = no_cell st (edited (RemoveBsc b) st).register (λ c. refl)

pub add_cell : (st : State) (c : Cell) (b : ℕ) → IsFree st (AddCell c b) → IsReach st (AddCell c b) (is_of_cell c st.book)
add_cell st c b free = added_cell st c b (none_holds (edit_checks st (AddCell c b)) free).1.0

pub move_cell : (st : State) (c : Cell) (b : ℕ) → IsFree st (MoveCell c b) → IsReach st (MoveCell c b) (is_of_cell c st.book)
move_cell st c b free =
    let holds = none_holds (edit_checks st (MoveCell c b)) free in
    moved_cell st c b (not-false _ holds.1.0) holds.1.1.0

pub remove_cell : (st : State) (c : Cell) → IsFree st (RemoveCell c) → IsReach st (RemoveCell c) (is_of_cell c st.book)
remove_cell st c free = removed_cell st c (not-false _ (none_holds (edit_checks st (RemoveCell c)) free).0)

-- the areas

pub add_area : (st : State) (a : List ℕ) → IsFree st (AddArea a) → Changes st (edited (AddArea a) st) []
add_area st a free = added_area st a (none_holds (edit_checks st (AddArea a)) free).1.0

pub drop_area : (st : State) (a : List ℕ) → IsFree st (DropArea a) → Changes st (edited (DropArea a) st) []
drop_area st a free = dropped_area st a (none_holds (edit_checks st (DropArea a)) free).1.0

pub put : (st : State) (a : List ℕ) (s : Selector) → IsFree st (Put a s) → is_ascending number_lt st.book.warnings ≡ true → IsReach st (Put a s) (is_of_selector st.register st.areas st.book a s)
put st a s free ordered =
    let holds = none_holds (edit_checks st (Put a s)) free in
    put_selector st a s ordered (not-false _ holds.0) holds.1.0

pub cut : (st : State) (a : List ℕ) (s : Selector) → IsFree st (Cut a s) → is_ascending number_lt st.book.warnings ≡ true → IsReach st (Cut a s) (is_of_selector st.register st.areas st.book a s)
cut st a s free ordered =
    cut_selector st a s ordered (not-false _ (none_holds (edit_checks st (Cut a s)) free).1.0)

-- the book

pub issue : (st : State) (notice : Notice) (areas : List (List ℕ)) → IsFree st (Issue notice areas) → list_all (was_issued st.book.issued) st.book.warnings ≡ true → IsReach st (Issue notice areas) (is_of_areas st.register st.areas areas (st.book.issued + 1))
issue st notice areas free given c n = at (new_serial st.book notice) refl
  where
    room : length st.book.warnings < 256
    room = leb-false 256 (length st.book.warnings) (none_holds (edit_checks st (Issue notice areas)) free).1.1.1.1.1.0

    at : (o : Option ℕ) → new_serial st.book notice ≡ o → is_of_areas st.register st.areas areas (st.book.issued + 1) c n ≡ is_changed st (with_book st (with_issue notice areas o st.book)) c n
    at None e = serial_is_there st.book.issued st.book.warnings notice room e
    at (Some s) e = issued_warning st notice areas s given c n

pub update : (st : State) (n : ℕ) (content : Content) → IsFree st (Update n content) → is_ascending number_lt st.book.warnings ≡ true → list_all has_versions st.book.warnings ≡ true → IsReach st (Update n content) (is_of_areas st.register st.areas (areas_of n st.book.warnings) n)
update st n content free ordered versions =
    let holds = none_holds (edit_checks st (Update n content)) free in
    updated_warning st n content ordered versions (not-false _ holds.0) (not-false _ holds.1.0)

pub widen : (st : State) (n : ℕ) (a : List ℕ) → IsFree st (Widen n a) → IsReach st (Widen n a) (is_of_areas st.register st.areas (a ∷ []) n)
widen st n a free = widened_warning st n a (not-false _ (none_holds (edit_checks st (Widen n a)) free).1.0)

pub narrow : (st : State) (n : ℕ) (a : List ℕ) → IsFree st (Narrow n a) → is_ascending number_lt st.book.warnings ≡ true → IsReach st (Narrow n a) (is_of_areas st.register st.areas (a ∷ []) n)
narrow st n a free ordered =
    let holds = none_holds (edit_checks st (Narrow n a)) free in
    narrowed_warning st n a ordered (not-false _ holds.1.0) (not-false _ holds.1.1.1.0)

pub stop : (st : State) (n : ℕ) → IsFree st (Stop n) → is_ascending number_lt st.book.warnings ≡ true → list_all has_versions st.book.warnings ≡ true → IsReach st (Stop n) (is_of_areas st.register st.areas (areas_of n st.book.warnings) n)
stop st n free ordered versions =
    let holds = none_holds (edit_checks st (Stop n)) free in
    stopped_warning st n ordered versions (not-false _ holds.0) (not-false _ holds.1.0)

pub forget : (st : State) (n : ℕ) → IsFree st (Forget n) → is_ascending number_lt st.book.warnings ≡ true → IsReach st (Forget n) (is_of_areas st.register st.areas (areas_of n st.book.warnings) n)
forget st n free ordered =
    let holds = none_holds (edit_checks st (Forget n)) free in
    forgotten_warning st n ordered (not-false _ holds.0) holds.1.0
