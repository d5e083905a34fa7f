-- Why an edit is refused: the first cause that holds, in the order of the checks.
use Rattle.std.specs.Prelude.{◌≡◌, ◌⊎◌, ℕ, Bool, true, false, not, List, [], ◌∷◌, Some, None}
use Rattle.std.specs.List.{list_any}
use Rattle.areas.specs.Areas.{has_area}
use Rattle.areas.specs.Checks as areas
use Rattle.areas.specs.declared.area.Area.{Area}
use Rattle.areas.specs.declared.refusal.Refusal as areas_refusal
use Rattle.cell_register.specs.Register as register
use Rattle.cell_register.specs.declared.refusal.Refusal as register_refusal
use Rattle.common.specs.Checks.{first_refusal}
use Rattle.warning_book.specs.Book.{names}
use Rattle.warning_book.specs.Book as issued
use Rattle.warning_book.specs.Checks as book
use Rattle.warning_book.specs.declared.notice.Notice.{Notice}
use Rattle.warning_book.specs.declared.refusal.Refusal as book_refusal
use Rattle.coverage_plan.specs.Plan.{State}
use Rattle.coverage_plan.specs.Refusals.{of_register, of_areas, of_book}
use Rattle.coverage_plan.specs.declared.edit.Edit.{Edit}
use Rattle.coverage_plan.specs.declared.edit.Edit.TheVariants.{AddBsc, RemoveBsc, AddCell, MoveCell, RemoveCell, AddArea, DropArea, Put, Cut, Issue, Update, Widen, Narrow, Stop, Forget}
use Rattle.coverage_plan.specs.declared.refusal.Refusal.{Refusal}
use Rattle.coverage_plan.specs.declared.refusal.Refusal.TheVariants.{NoSuchArea, AreaInUse, Memory}

-- why an edit with these checks is refused: the first cause that holds, or out of memory where none does
abbrev pub IsRefusal : List (Bool × Refusal) → Refusal → Type 0
IsRefusal checks e = (first_refusal checks ≡ Some e) ⊎ ((e ≡ Memory) × (first_refusal checks ≡ None))

-- the checks that a lower crate makes, each with the refusal that stands for its own
abbrev pub translated : {E F : Type 0} → (E → F) → List (Bool × E) → List (Bool × F)
translated f [] = []
translated f (check ∷ checks) = (check.0, f check.1) ∷ translated f checks

-- the checks that the register makes
abbrev pub by_register : List (Bool × register_refusal.Refusal) → List (Bool × Refusal)
by_register checks = translated of_register checks

-- the checks that the areas make
abbrev pub by_areas : List (Bool × areas_refusal.Refusal) → List (Bool × Refusal)
by_areas checks = translated of_areas checks

-- the checks that the book makes
abbrev pub by_book : List (Bool × book_refusal.Refusal) → List (Bool × Refusal)
by_book checks = translated of_book checks

-- a warning in the book names the area
abbrev pub is_in_use : issued.State → List ℕ → Bool
is_in_use b a = list_any (names a) b.warnings

-- one of the names is no area's
abbrev pub names_no_area : List Area → List (List ℕ) → Bool
names_no_area l areas = list_any (λ a. not (has_area l a)) areas

-- why an area cannot be dropped: it is not there, or a warning in the book names it
abbrev pub drop_area_checks : List Area → issued.State → List ℕ → List (Bool × Refusal)
drop_area_checks l b a = (not (has_area l a), NoSuchArea) ∷ (is_in_use b a, AreaInUse) ∷ []

-- why a warning cannot be issued: one of its areas is not there, or what the book says
abbrev pub issue_checks : List Area → issued.State → Notice → List (List ℕ) → List (Bool × Refusal)
issue_checks l b notice areas = (names_no_area l areas, NoSuchArea) ∷ by_book (book.issue_checks b notice areas)

-- why a warning cannot be widened: the area is not there, or what the book says
abbrev pub widen_checks : List Area → issued.State → ℕ → List ℕ → List (Bool × Refusal)
widen_checks l b n a = (not (has_area l a), NoSuchArea) ∷ by_book (book.widen_checks b n a)

-- why a warning cannot be narrowed: the area is not there, or what the book says
abbrev pub narrow_checks : List Area → issued.State → ℕ → List ℕ → List (Bool × Refusal)
narrow_checks l b n a = (not (has_area l a), NoSuchArea) ∷ by_book (book.narrow_checks b n a)

-- the checks of each edit
abbrev pub edit_checks : State → Edit → List (Bool × Refusal)
edit_checks st (AddBsc b) = by_register (register.add_bsc_checks st.register b)
edit_checks st (RemoveBsc b) = by_register (register.remove_bsc_checks st.register b)
edit_checks st (AddCell c b) = by_register (register.add_cell_checks st.register c b)
edit_checks st (MoveCell c b) = by_register (register.move_cell_checks st.register c b)
edit_checks st (RemoveCell c) = by_register (register.remove_cell_checks st.register c)
edit_checks st (AddArea a) = by_areas (areas.add_area_checks st.areas a)
edit_checks st (DropArea a) = drop_area_checks st.areas st.book a
edit_checks st (Put a s) = by_areas (areas.put_checks st.areas a s)
edit_checks st (Cut a s) = by_areas (areas.cut_checks st.areas a s)
edit_checks st (Issue notice areas) = issue_checks st.areas st.book notice areas
edit_checks st (Update n content) = by_book (book.update_checks st.book n content)
edit_checks st (Widen n a) = widen_checks st.areas st.book n a
edit_checks st (Narrow n a) = narrow_checks st.areas st.book n a
edit_checks st (Stop n) = by_book (book.stop_checks st.book n)
edit_checks st (Forget n) = by_book (book.forget_checks st.book n)

-- the edit only moves, takes out or stops what is there, so that nothing grows
abbrev pub grows_nothing : Edit → Bool
grows_nothing (RemoveBsc b) = true
grows_nothing (MoveCell c b) = true
grows_nothing (RemoveCell c) = true
grows_nothing (DropArea a) = true
grows_nothing (Cut a s) = true
grows_nothing (Narrow n a) = true
grows_nothing (Stop n) = true
grows_nothing (Forget n) = true
grows_nothing other = false

-- besides, it changes no pair of a cell and a warning, so that the list of these is empty
abbrev pub grows_no_list : Edit → Bool
grows_no_list (RemoveBsc b) = true
grows_no_list (DropArea a) = true
grows_no_list other = false

-- the edit has no name, list or content, so that a copy of it takes no memory
abbrev pub is_plain_edit : Edit → Bool
is_plain_edit (AddBsc b) = true
is_plain_edit (RemoveBsc b) = true
is_plain_edit (AddCell c b) = true
is_plain_edit (MoveCell c b) = true
is_plain_edit (RemoveCell c) = true
is_plain_edit (Stop n) = true
is_plain_edit (Forget n) = true
is_plain_edit other = false
