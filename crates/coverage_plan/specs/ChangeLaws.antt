-- What stays as it was for a pair that does not change.
use Rattle.std.proofs.Common.{◌≡◌, ◌⊎◌, inl, inr, ℕ, Bool, true, false, ◌&&◌, ◌||◌, List, [], ◌∷◌, Option, Some, None, nat_eq, if◌then◌else◌, refl, sym, ◌∙◌, ap, eqb-true}
use Rattle.std.proofs.lemmas.Bool.{and_right, both_ways, not-false, or_parts}
use Rattle.std.proofs.lemmas.Slice.Eq.{bytes_eq-Decides}
use Rattle.std.specs.Cmp.Lexicographic.{pointwise, pointwise_decides}
use Rattle.std.specs.List.{list_any, find}
use Rattle.std.specs.Option.{is_some, option_and_then}
use Rattle.std.specs.Prelude.{bytes_eq, filter}
use Rattle.areas.specs.Areas.{covers}
use Rattle.common.specs.declared.cell.Cell.{Cell}
use Rattle.warning_book.specs.Book.{has_number, areas_of, current_of, is_there, warning_of}
use Rattle.warning_book.specs.declared.warning.Warning.{Warning}
use Rattle.coverage_plan.specs.Changes.{differ, names_differ, is_changed}
use Rattle.coverage_plan.specs.Plan.{State, place, covering, is_covered, wanted_of, wanted}

-- a warning in the book

-- the areas of a warning, if there is one
abbrev pub areas_in : Option Warning → List (List ℕ)
areas_in None = []
areas_in (Some w) = w.areas

pub there_found : (n : ℕ) (ws : List Warning) → list_any (has_number n) ws ≡ is_some (find (has_number n) ws)
there_found n [] = refl
there_found n (w ∷ ws) = step (has_number n w) (there_found n ws)
  where
    step : (t : Bool) → list_any (has_number n) ws ≡ is_some (find (has_number n) ws) → (t || list_any (has_number n) ws) ≡ is_some (if t then Some w else find (has_number n) ws)
    step true rest = refl
    step false rest = rest

pub areas_found : (n : ℕ) (ws : List Warning) → areas_of n ws ≡ areas_in (find (has_number n) ws)
areas_found n [] = refl
areas_found n (w ∷ ws) = step (has_number n w) (areas_found n ws)
  where
    step : (t : Bool) → areas_of n ws ≡ areas_in (find (has_number n) ws) → (if t then w.areas else areas_of n ws) ≡ areas_in (if t then Some w else find (has_number n) ws)
    step true rest = refl
    step false rest = rest

-- what doesn't differ is the same

pub same_option : (o p : Option ℕ) → differ o p ≡ false → o ≡ p
same_option None None h = refl
same_option None (Some y) h = cc
same_option (Some x) None h = cc
same_option (Some x) (Some y) h = ap (λ (n : ℕ). Some n) (eqb-true x y (not-false (nat_eq x y) h))

pub same_names : (xs ys : List (List ℕ)) → names_differ xs ys ≡ false → xs ≡ ys
same_names xs ys h = (pointwise_decides bytes_eq-Decides xs ys).0 (not-false (pointwise bytes_eq xs ys) h)

-- where nothing is wanted

-- no serial number of a warning that is not in the book
absent_wanted : (st : State) (c : Cell) (n : ℕ) → is_there st.book n ≡ false → wanted st c n ≡ None
absent_wanted st c n h = at (warning_of st.book n) (sym (there_found n st.book.warnings) ∙ h)
  where
    at : (o : Option Warning) → is_some o ≡ false → option_and_then (wanted_of st c) o ≡ None
    at None g = refl
    at (Some w) g = cc

-- nor of any in a cell that is not registered
unplaced_wanted : (st : State) (c : Cell) (n : ℕ) → is_some (place st c) ≡ false → wanted st c n ≡ None
unplaced_wanted st c n h = at (warning_of st.book n)
  where
    at : (o : Option Warning) → option_and_then (wanted_of st c) o ≡ None
    at None = refl
    at (Some w) =
        ap (λ t. if w.active && (t && is_covered st.areas w.areas c) then current_of w else None) h ∙ ap (λ t. if t then current_of w else None) (and_right w.active false refl)

absent_areas : (st : State) (c : Cell) (n : ℕ) → is_there st.book n ≡ false → covering st c n ≡ []
absent_areas st c n h =
    ap (filter (λ a. covers st.areas a c)) (areas_found n st.book.warnings) ∙ at (warning_of st.book n) (sym (there_found n st.book.warnings) ∙ h)
  where
    at : (o : Option Warning) → is_some o ≡ false → filter (λ a. covers st.areas a c) (areas_in o) ≡ []
    at None g = refl
    at (Some w) g = cc

-- what stays

-- the cell is registered before or after
abbrev pub is_registered_once : State → State → Cell → Bool
is_registered_once old new c = is_some (place old c) || is_some (place new c)

-- the warning is in the book before or after
abbrev pub is_there_once : State → State → ℕ → Bool
is_there_once old new n = is_there old.book n || is_there new.book n

-- what is wanted of the warning in the cell, or the areas that cover the cell, differ
abbrev differs_beside : State → State → Cell → ℕ → Bool
differs_beside old new c n = differ (wanted old c n) (wanted new c n) || names_differ (covering old c n) (covering new c n)

-- nothing differs
record Stays (old new : State) (c : Cell) (n : ℕ) : Type 0 where
  placed : place old c ≡ place new c
  wished : wanted old c n ≡ wanted new c n
  covered : covering old c n ≡ covering new c n

stays : (old new : State) (c : Cell) (n : ℕ) → (differ (place old c) (place new c) || differs_beside old new c n) ≡ false → Stays old new c n
stays old new c n h =
    let first = or_parts (differ (place old c) (place new c)) (differs_beside old new c n) h in
    let later = or_parts (differ (wanted old c n) (wanted new c n)) (names_differ (covering old c n) (covering new c n)) first.1 in
    record {
      placed = same_option (place old c) (place new c) first.0;
      wished = same_option (wanted old c n) (wanted new c n) later.0;
      covered = same_names (covering old c n) (covering new c n) later.1;
    }

-- why a pair does not change
cases_of : (r t d : Bool) → (r && (t && d)) ≡ false → (r ≡ false) ⊎ ((t ≡ false) ⊎ (d ≡ false))
cases_of false t d h = inl refl
cases_of true false d h = inr (inl refl)
cases_of true true d h = inr (inr h)

cases : (old new : State) (c : Cell) (n : ℕ) → is_changed old new c n ≡ false → (is_registered_once old new c ≡ false) ⊎ ((is_there_once old new n ≡ false) ⊎ Stays old new c n)
cases old new c n h = at (cases_of (is_registered_once old new c) (is_there_once old new n) (differ (place old c) (place new c) || differs_beside old new c n) h)
  where
    at : (is_registered_once old new c ≡ false) ⊎ ((is_there_once old new n ≡ false) ⊎ ((differ (place old c) (place new c) || differs_beside old new c n) ≡ false)) → (is_registered_once old new c ≡ false) ⊎ ((is_there_once old new n ≡ false) ⊎ Stays old new c n)
    at (inl g) = inl g
    at (inr (inl g)) = inr (inl g)
    at (inr (inr g)) = inr (inr (stays old new c n g))

-- a pair that does not change keeps its wanted serial number
pub wanted_stays : (old new : State) (c : Cell) (n : ℕ) → is_changed old new c n ≡ false → wanted old c n ≡ wanted new c n
wanted_stays old new c n h = at (cases old new c n h)
  where
    at : (is_registered_once old new c ≡ false) ⊎ ((is_there_once old new n ≡ false) ⊎ Stays old new c n) → wanted old c n ≡ wanted new c n
    at (inl g) =
        let parts = or_parts (is_some (place old c)) (is_some (place new c)) g in
        unplaced_wanted old c n parts.0 ∙ sym (unplaced_wanted new c n parts.1)
    at (inr (inl g)) =
        let parts = or_parts (is_there old.book n) (is_there new.book n) g in
        absent_wanted old c n parts.0 ∙ sym (absent_wanted new c n parts.1)
    at (inr (inr g)) = g.wished

-- the same areas cover it, if its cell is registered before or after
pub covering_stays : (old new : State) (c : Cell) (n : ℕ) → is_changed old new c n ≡ false → is_registered_once old new c ≡ true → covering old c n ≡ covering new c n
covering_stays old new c n h there = at (cases old new c n h)
  where
    at : (is_registered_once old new c ≡ false) ⊎ ((is_there_once old new n ≡ false) ⊎ Stays old new c n) → covering old c n ≡ covering new c n
    at (inl g) = absurd (both_ways (is_registered_once old new c) g there)
    at (inr (inl g)) =
        let parts = or_parts (is_there old.book n) (is_there new.book n) g in
        absent_areas old c n parts.0 ∙ sym (absent_areas new c n parts.1)
    at (inr (inr g)) = g.covered

-- and the cell stays at its BSC, if the warning is in the book before or after
pub place_stays : (old new : State) (c : Cell) (n : ℕ) → is_changed old new c n ≡ false → is_there_once old new n ≡ true → place old c ≡ place new c
place_stays old new c n h there = at (cases old new c n h)
  where
    unplaced : (o p : Option ℕ) → is_some o ≡ false → is_some p ≡ false → o ≡ p
    unplaced None None e f = refl
    unplaced None (Some y) e f = cc
    unplaced (Some x) p e f = cc

    at : (is_registered_once old new c ≡ false) ⊎ ((is_there_once old new n ≡ false) ⊎ Stays old new c n) → place old c ≡ place new c
    at (inl g) =
        let parts = or_parts (is_some (place old c)) (is_some (place new c)) g in
        unplaced (place old c) (place new c) parts.0 parts.1
    at (inr (inl g)) = absurd (both_ways (is_there_once old new n) g there)
    at (inr (inr g)) = g.placed
