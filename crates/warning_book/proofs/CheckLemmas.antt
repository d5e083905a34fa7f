-- The checks of an edit of a warning that is there are those of that warning.
use Rattle.std.proofs.Common.{◌≡◌, ℕ, Bool, true, false, ◌||◌, cond, List, [], ◌∷◌, Some, None, refl}
use Rattle.std.specs.Prelude.{find}
use Rattle.std.specs.List.{list_any}
use Rattle.common.specs.Checks.{first_refusal}
use Rattle.common.specs.Order.{is_ascending}
use Rattle.warning_book.specs.Book.{State, has_number, number_lt, names, is_full, has_one_area, is_there, warning_is, warning_of}
use Rattle.warning_book.specs.Checks.{there_checks, widen_checks, narrow_checks, forget_checks, warning_there_checks, warning_widen_checks, warning_narrow_checks, warning_forget_checks}
use Rattle.warning_book.specs.Laws.{found_so}
use Rattle.warning_book.proofs.FoundLemmas.{absent_in}
use Rattle.warning_book.specs.declared.warning.Warning.{Warning}

there_in : (n : ℕ) (l : List Warning) (w : Warning) → find (has_number n) l ≡ Some w → list_any (has_number n) l ≡ true
there_in n [] w h = cc
there_in n (v ∷ l) w h = step (there_in n l w) (has_number n v) h
  where
    step : (find (has_number n) l ≡ Some w → list_any (has_number n) l ≡ true) → (t : Bool) → cond t (Some v) (find (has_number n) l) ≡ Some w → (t || list_any (has_number n) l) ≡ true
    step rest true e = refl
    step rest false e = rest e

pub is_absent : (st : State) (n : ℕ) → warning_of st n ≡ None → is_there st n ≡ false
is_absent st n h = absent_in n st.warnings h

found_there : (st : State) (n : ℕ) (w : Warning) → warning_of st n ≡ Some w → is_there st n ≡ true
found_there st n w h = there_in n st.warnings w h

found_is : (st : State) (n : ℕ) (f : Warning → Bool) (w : Warning) → is_ascending number_lt st.warnings ≡ true → warning_of st n ≡ Some w → warning_is st n f ≡ f w
found_is st n f w o h = found_so n f st.warnings w o h

pub active_found : (st : State) (n : ℕ) (w : Warning) → is_ascending number_lt st.warnings ≡ true → warning_of st n ≡ Some w → first_refusal (there_checks st n) ≡ first_refusal (warning_there_checks w)
active_found st n w o h = rw (found_there st n w h, found_is st n (λ v. v.active) w o h) refl

pub widen_found : (st : State) (n : ℕ) (a : List ℕ) (w : Warning) → is_ascending number_lt st.warnings ≡ true → warning_of st n ≡ Some w → first_refusal (widen_checks st n a) ≡ first_refusal (warning_widen_checks a w)
widen_found st n a w o h =
    rw (found_there st n w h, found_is st n (λ v. v.active) w o h, found_is st n (names a) w o h, found_is st n is_full w o h) refl

pub narrow_found : (st : State) (n : ℕ) (a : List ℕ) (w : Warning) → is_ascending number_lt st.warnings ≡ true → warning_of st n ≡ Some w → first_refusal (narrow_checks st n a) ≡ first_refusal (warning_narrow_checks a w)
narrow_found st n a w o h =
    rw (found_there st n w h, found_is st n (λ v. v.active) w o h, found_is st n (names a) w o h, found_is st n has_one_area w o h) refl

pub forget_found : (st : State) (n : ℕ) (w : Warning) → is_ascending number_lt st.warnings ≡ true → warning_of st n ≡ Some w → first_refusal (forget_checks st n) ≡ first_refusal (warning_forget_checks w)
forget_found st n w o h = rw (found_there st n w h, found_is st n (λ v. v.active) w o h) refl
