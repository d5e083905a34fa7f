-- Why an edit is refused: the first cause that holds, in the order of the checks.
use Rattle.std.specs.Prelude.{ℕ, Bool, true, false, not, List, [], ◌∷◌, ◌++◌, bytes_eq, nat_le, ltb, length}
use Rattle.common.specs.Order.{each_once}
use Rattle.warning_book.specs.Book.{State, names, is_full, has_one_area, is_of_other_kind, warning_is, is_there, is_active}
use Rattle.warning_book.specs.Content.{have_pages, has_period}
use Rattle.warning_book.specs.declared.content.Content.{Content}
use Rattle.warning_book.specs.declared.notice.Notice.{Notice}
use Rattle.warning_book.specs.declared.refusal.Limit.TheVariants as limit
use Rattle.warning_book.specs.declared.refusal.Refusal.{Refusal}
use Rattle.warning_book.specs.declared.refusal.Refusal.TheVariants as refusal
use Rattle.warning_book.specs.declared.warning.Warning.{Warning}

-- no area is named
abbrev pub is_empty : List (List ℕ) → Bool
is_empty [] = true
is_empty (a ∷ areas) = false

-- the checks of issuing a warning, in their order
abbrev pub issue_checks : State → Notice → List (List ℕ) → List (Bool × Refusal)
issue_checks st notice areas = (is_empty areas, refusal.NoAreas) ∷ (not (each_once bytes_eq areas), refusal.AreaThere) ∷ (not (have_pages notice.content), refusal.BadPages) ∷ (not (has_period notice.content), refusal.BadPeriod) ∷ (nat_le 256 (length st.warnings), refusal.Limit limit.Warnings) ∷ (ltb 16 (length areas), refusal.Limit limit.WarningAreas) ∷ (nat_le 4294967295 st.issued, refusal.Limit limit.Ids) ∷ []

-- the checks that the warning is there and was not stopped
abbrev pub there_checks : State → ℕ → List (Bool × Refusal)
there_checks st n = (not (is_there st n), refusal.NoSuchWarning) ∷ (not (is_active st n), refusal.NotActive) ∷ []

-- the checks of the content that a warning is to have
abbrev pub content_checks : State → ℕ → Content → List (Bool × Refusal)
content_checks st n content = (not (have_pages content), refusal.BadPages) ∷ (not (has_period content), refusal.BadPeriod) ∷ (warning_is st n (is_of_other_kind content), refusal.WrongKind) ∷ []

-- the checks of updating a warning
abbrev pub update_checks : State → ℕ → Content → List (Bool × Refusal)
update_checks st n content = there_checks st n ++ content_checks st n content

-- the checks of naming one more area
abbrev pub widen_checks : State → ℕ → List ℕ → List (Bool × Refusal)
widen_checks st n a = (not (is_there st n), refusal.NoSuchWarning) ∷ (not (is_active st n), refusal.NotActive) ∷ (warning_is st n (names a), refusal.AreaThere) ∷ (warning_is st n is_full, refusal.Limit limit.WarningAreas) ∷ []

-- the checks of taking an area out
abbrev pub narrow_checks : State → ℕ → List ℕ → List (Bool × Refusal)
narrow_checks st n a = (not (is_there st n), refusal.NoSuchWarning) ∷ (not (is_active st n), refusal.NotActive) ∷ (not (warning_is st n (names a)), refusal.AreaNotThere) ∷ (warning_is st n has_one_area, refusal.LastArea) ∷ []

-- the checks of stopping a warning
abbrev pub stop_checks : State → ℕ → List (Bool × Refusal)
stop_checks st n = there_checks st n

-- the checks of forgetting a warning
abbrev pub forget_checks : State → ℕ → List (Bool × Refusal)
forget_checks st n = (not (is_there st n), refusal.NoSuchWarning) ∷ (is_active st n, refusal.StillActive) ∷ []

-- the checks that are left where the warning is there

-- the check that it was not stopped
abbrev pub warning_there_checks : Warning → List (Bool × Refusal)
warning_there_checks w = (not w.active, refusal.NotActive) ∷ []

-- the checks of naming one more area in it
abbrev pub warning_widen_checks : List ℕ → Warning → List (Bool × Refusal)
warning_widen_checks a w = (not w.active, refusal.NotActive) ∷ (names a w, refusal.AreaThere) ∷ (is_full w, refusal.Limit limit.WarningAreas) ∷ []

-- the checks of taking an area out of it
abbrev pub warning_narrow_checks : List ℕ → Warning → List (Bool × Refusal)
warning_narrow_checks a w = (not w.active, refusal.NotActive) ∷ (not (names a w), refusal.AreaNotThere) ∷ (has_one_area w, refusal.LastArea) ∷ []

-- the checks of forgetting it
abbrev pub warning_forget_checks : Warning → List (Bool × Refusal)
warning_forget_checks w = (w.active, refusal.StillActive) ∷ []
