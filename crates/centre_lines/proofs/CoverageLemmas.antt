-- What was found of the areas of warnings.
use Rattle.std.proofs.Common.{◌≡◌, ℕ, zero, suc, ◌+◌, ◌*◌, ◌<◌, Bool, drop, true, false, ◌&&◌, ◌||◌, cond, bytes_eq, nat_eq, nat_le, ltb, eqb-true, eq-eqb, List, [], ◌∷◌, ◌++◌, Some, map, filter, length, get_or, refl, sym, ◌∙◌, ap, subst, arith}
use Rattle.std.proofs.lemmas.Bool.{and_parts}
use Rattle.std.proofs.lemmas.Bool.Decides.{nat_tests}
use Rattle.std.proofs.lemmas.List.{drop_more, length-map}
use Rattle.std.proofs.lemmas.Slice.Eq.{bytes_eq-Decides}
use Rattle.std.specs.List.{list_all, list_any}
use Rattle.std.specs.Prelude.{find, slice_set, IfSome}
use Rattle.areas.specs.Areas.{areas_of, covers, selects, selectors_of}
use Rattle.areas.specs.Laws.{among_areas_of}
use Rattle.areas.specs.declared.area.Area.{Area}
use Rattle.areas.specs.declared.selector.Selector.{Selector}
use Rattle.common.specs.OnceLaws.{any_turned}
use Rattle.common.specs.Order.{each_once, is_ascending}
use Rattle.common.specs.RisingLaws.{rises}
use Rattle.common.specs.Sums.{one}
use Rattle.common.specs.declared.cell.Cell.{Cell}
use Rattle.coverage_board.specs.AreaSets.{AreDigits, mask, names_at}
use Rattle.coverage_board.specs.AreaSetLaws.{mask_below, mask_map, names_mask}
use Rattle.coverage_board.specs.Parts.{has_area}
use Rattle.warning_book.specs.Book as book
use Rattle.warning_book.specs.Book.{has_number, names_one_of, number_lt, warning_of}
use Rattle.warning_book.specs.Sound.{has_areas}
use Rattle.warning_book.specs.declared.warning.Warning.{Warning}
use Rattle.centre_lines.specs.Found.{AreFound, Found, IsOf, head_of}
use Rattle.centre_past.proofs.LineLemmas.{found_all}
use Rattle.centre_past.proofs.RegisterLemmas.{nat_apart}

-- one more warning was looked for
pub found_more : (l : List Area) (st : book.State) (xs : List Found) (x : Found) → AreFound l st xs → IsOf l (warning_of st x.warning) x → AreFound l st (xs ++ x ∷ [])
found_more l st [] x found here = (here, tt)
found_more l st (y ∷ ys) x found here = (found.0, found_more l st ys x found.1 here)

-- what was found of one that was looked for by its number
pub found_there : (l : List Area) (st : book.State) (n : ℕ) (w : Warning) → Some w ≡ warning_of st n → (xs : List Found) (i : ℕ) → AreFound l st xs → i < length xs → ((d : Found) → nat_eq n (get_or xs i d).warning ≡ true) → (d : Found) → IsOf l (Some w) (get_or xs i d)
found_there l st n w is [] i found there number d = grind (arith, there)
found_there l st n w is (x ∷ xs) zero found there number d =
    let number : n ≡ x.warning = grind (arith, nat_tests, number d) in
    subst (λ o. IsOf l o x) (ap (warning_of st) (sym number) ∙ sym is) found.0
found_there l st n w is (x ∷ xs) (suc i) found there number d = found_there l st n w is xs i found.1 (grind (arith, there)) number d

-- another stands in the place of one
pub found_set : (l : List Area) (st : book.State) (xs : List Found) (i : ℕ) (x : Found) → AreFound l st xs → IsOf l (warning_of st x.warning) x → AreFound l st (slice_set xs i x)
found_set l st [] i x found here = tt
found_set l st (y ∷ ys) zero x found here = (here, found.1)
found_set l st (y ∷ ys) (suc i) x found here = (found.0, found_set l st ys i x found.1 here)

-- what is read of the warning before an edit may be kept in the place of one that was looked for
pub found_read : (l : List Area) (st : book.State) (n : ℕ) (w : Warning) → Some w ≡ warning_of st n → (xs : List Found) (i : ℕ) (z x y : Found) → AreFound l st xs → z ≡ get_or xs i z → ((d : Found) → nat_eq n (get_or xs i d).warning ≡ true) → ((d : Found) → IsOf l (Some w) (get_or xs i d)) → x ≡ z → y.warning ≡ x.warning → y.selectors ≡ x.selectors → IfSome y.before (λ h. h ≡ head_of w) → AreFound l st (slice_set xs i y)
found_read l st n w there xs i z x y found at number place same warning selectors before =
    let is : IsOf l (Some w) z = subst (IsOf l (Some w)) (sym at) (place z) in
    let number : n ≡ y.warning = eqb-true n z.warning (ap (λ (f : Found). nat_eq n f.warning) at ∙ number z) ∙ sym (warning ∙ ap (λ (f : Found). f.warning) same) in
    found_set l st xs i y found (subst (λ o. IsOf l o y) (there ∙ ap (warning_of st) number) (selectors ∙ ap (λ (f : Found). f.selectors) same ∙ is.0, before))

-- whether one of the names is among all areas that cover the cell
pub any_covering : (l : List Area) (c : Cell) (all names : List (List ℕ)) → all ≡ areas_of l c → list_any (has_area all) names ≡ list_any (λ a. covers l a c) names
any_covering l c all names is = (λ i. list_any (has_area (is i)) names) ∙ (λ i. list_any (λ a. among_areas_of l c a i) names)

-- one of some is among others just where one of those is among these

none_of : {A : Type 0} (ys : List A) → list_any (λ y. false) ys ≡ false
none_of [] = refl
none_of (y ∷ ys) = none_of ys

either_of : {A : Type 0} (p q : A → Bool) (ys : List A) → list_any (λ y. p y || q y) ys ≡ (list_any p ys || list_any q ys)
either_of p q [] = refl
either_of p q (y ∷ ys) = ap (λ t. (p y || q y) || t) (either_of p q ys) ∙ arranged (p y) (q y) (list_any p ys) (list_any q ys)
  where
    arranged : (t u v x : Bool) → ((t || u) || (v || x)) ≡ ((t || v) || (u || x))
    arranged true u v x = refl
    arranged false true true x = refl
    arranged false true false x = refl
    arranged false false v x = refl

any_swapped : (xs ys : List (List ℕ)) → list_any (λ x. list_any (λ y. bytes_eq y x) ys) xs ≡ list_any (λ y. list_any (λ x. bytes_eq x y) xs) ys
any_swapped [] ys = sym (none_of ys)
any_swapped (x ∷ xs) ys =
    ap (λ t. t || list_any (λ z. list_any (λ y. bytes_eq y z) ys) xs) (sym (any_turned bytes_eq bytes_eq-Decides x ys))
    ∙ ap (λ t. list_any (bytes_eq x) ys || t) (any_swapped xs ys)
    ∙ sym (either_of (bytes_eq x) (λ y. list_any (λ z. bytes_eq z y) xs) ys)

-- a warning names one of the areas that cover the cell just where one of its own covers it
pub names_covering : (l : List Area) (c : Cell) (w : Warning) → names_one_of (areas_of l c) w ≡ list_any (λ a. covers l a c) w.areas
names_covering l c w = any_swapped (areas_of l c) w.areas ∙ any_covering l c (areas_of l c) w.areas refl

-- a warning in the book is the one of its number
pub of_its_number : (ws : List Warning) (i : ℕ) (w : Warning) → is_ascending number_lt ws ≡ true → i < length ws → w ≡ get_or ws i w → Some w ≡ find (has_number w.number) ws
of_its_number [] i w ordered there is = grind (arith, there)
of_its_number (v ∷ ws) zero w ordered there is =
    subst (λ (x : Warning). Some x ≡ find (has_number x.number) (v ∷ ws)) (sym is) (sym (ap (λ t. cond t (Some v) (find (has_number v.number) ws)) (eq-eqb v.number v.number refl)))
of_its_number (v ∷ ws) (suc i) w ordered there is =
    let less : ltb v.number w.number ≡ true = ap (λ (x : Warning). ltb v.number x.number) is ∙ rises number_lt (v ∷ ws) 0 (suc i) w ordered (omega arith) there in
    of_its_number ws i w (and_parts (list_all (number_lt v) ws) (is_ascending number_lt ws) ordered).1 (grind (arith, there)) is
    ∙ sym (ap (λ t. cond t (Some v) (find (has_number w.number) ws)) (nat_apart v.number w.number less))

-- the areas of a warning in the book are some, and each stands once
pub areas_in_book : (st : book.State) (n : ℕ) (w : Warning) → Some w ≡ warning_of st n → list_all has_areas st.warnings ≡ true → has_areas w ≡ true
areas_in_book st n w is all = found_all (has_number n) has_areas st.warnings w (sym is) all

-- the names with the digits of what selects the cell are those of the areas that cover it
digits_covering : (l : List Area) (names : List (List ℕ)) (selectors : List (List Selector)) (c : Cell) (n : ℕ) → selectors ≡ map (selectors_of l) names → n ≡ mask (λ s. selects s c) selectors → names_at n names ≡ filter (λ a. covers l a c) names
digits_covering l names selectors c n are is =
    ap (λ m. names_at m names) (is ∙ ap (mask (λ s. selects s c)) are ∙ mask_map (λ s. selects s c) (selectors_of l) names) ∙ names_mask (λ a. covers l a c) names

-- and they are digits of the names
digits_are : (names : List (List ℕ)) (selectors : List (List Selector)) (c : Cell) (n : ℕ) → each_once bytes_eq names ≡ true → length selectors ≡ length names → n ≡ mask (λ s. selects s c) selectors → AreDigits n names
digits_are names selectors c n once each is = record {
  few = rw (is, sym each) (mask_below (λ s. selects s c) selectors);
  once = once;
}

-- so of what was found of a warning in the book

pub digits_in : (l : List Area) (w : Warning) (x : Found) (c : Cell) (n : ℕ) → has_areas w ≡ true → IsOf l (Some w) x → n ≡ mask (λ s. selects s c) x.selectors → AreDigits n w.areas
digits_in l w x c n good is digits =
    digits_are w.areas x.selectors c n (and_parts (nat_le 1 (length w.areas) && nat_le (length w.areas) 16) (each_once bytes_eq w.areas) good).1 (ap length is.0 ∙ length-map w.areas (selectors_of l)) digits

pub digits_cover : (l : List Area) (w : Warning) (x : Found) (c : Cell) (n : ℕ) → IsOf l (Some w) x → n ≡ mask (λ s. selects s c) x.selectors → names_at n w.areas ≡ filter (λ a. covers l a c) w.areas
digits_cover l w x c n is digits = digits_covering l w.areas x.selectors c n is.0 digits

-- the digits of what stands from one place on
pub mask_next : {A : Type 0} (p : A → Bool) (xs : List A) (i k : ℕ) (x : A) → x ≡ get_or xs i x → i < length xs → i + 1 ≡ k → mask p (drop i xs) ≡ one (p x) + 2 * mask p (drop k xs)
mask_next p xs i k x is below next =
    ap (mask p) (drop_more xs i x below) ∙ (λ j. one (p (sym is j)) + 2 * mask p (drop (next j) xs))
